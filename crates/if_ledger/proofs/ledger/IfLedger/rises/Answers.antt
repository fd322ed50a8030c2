use Rattle.std.proofs.Common.{◌∙◌, ◌∷◌, []}
use Rattle.if_ledger.proofs.ledger.IfLedger.rises.Goals as goal

pub returns : goal.returns
returns c = rw (← c.self.view_is) (λ runs st. c.totals.ensures ∙ (λ j.
    st.rises_are.in_octets.total_is j ∷
    st.rises_are.in_ucast.total_is j ∷
    st.rises_are.in_multicast.total_is j ∷
    st.rises_are.in_broadcast.total_is j ∷
    st.rises_are.in_discards.total_is j ∷
    st.rises_are.in_errors.total_is j ∷
    st.rises_are.in_unknown.total_is j ∷
    st.rises_are.out_octets.total_is j ∷
    st.rises_are.out_ucast.total_is j ∷
    st.rises_are.out_multicast.total_is j ∷
    st.rises_are.out_broadcast.total_is j ∷
    st.rises_are.out_discards.total_is j ∷
    st.rises_are.out_errors.total_is j ∷
    []))
