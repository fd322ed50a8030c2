use Rattle.std.proofs.Common.{◌≡◌, ◌∙◌, sym, subst, ap, Some, ◌&&◌}
use Rattle.trial_premises.specs.Boots.{BootState, shows_after}
use Rattle.trial_premises.proofs.BootSteps.{boots-more}
use Rattle.trial_premises.proofs.boots.BootWatch.enter.Goals as goal

pub returns-clause-stands : goal.returns-clause-stands
returns-clause-stands c = rw (← c.self.view_is) (λ d before h st.
    let was : BootState = record {
      newest = c.self.inside.newest;
      numbers = c.self.inside.numbers.numbers.slots.items;
      visible = c.self.inside.visible;
      close = c.self.inside.close;
    } in
    let now : BootState = record {
      newest = Some c.newest_with.result;
      numbers = c.enter.new.self.numbers.slots.items;
      visible = c.both-visible.result;
      close = c.both-close.result;
    } in
    let S : BootState → Type 0 = λ b. c.shows.result ≡ shows_after c.args.slack b.newest c.args.datagram in
    let shows : c.shows.result ≡ shows_after c.args.slack was.newest c.args.datagram =
    subst S (sym c.self.view_is) c.shows.ensures in
    boots-more c.args.slack was now c.args.datagram d before h (ap Some c.newest_with.ensures)
    (c.both-visible.ensures ∙ ap (λ b. b && c.self.inside.visible) shows)
    (c.both-close.ensures ∙ ap (λ b. b && c.self.inside.close) c.is_close.ensures)
    c.enter.ensures.values st)
