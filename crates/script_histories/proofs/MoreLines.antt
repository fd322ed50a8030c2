-- What one line more delivers.
use Rattle.std.proofs.Common.{◌≡◌, ◌∙◌, Bool, true, false, List, [], ◌∷◌, ◌++◌, reverse, filter_map, Option, None, refl, ap, sym, option_and_then}
use Rattle.std.specs.List.{AllByRecursion, cons_option, list_all}
use Rattle.std.proofs.lemmas.List.Elements.{filter_map-append}
use Rattle.wire_spec.specs.Captures.{Entry}
use Rattle.account_spec.specs.Deliveries.{Delivery}
use Rattle.script_spec.specs.Lines as script
use Rattle.script_spec.specs.Lines.{Line, DeliverLine}
use Rattle.script_spec.specs.Rules.{sets_up}
use Rattle.script_spec.specs.Sent.{delivery_in, deliveries_in, delivered_entry, all_delivered}
use Rattle.script_laws.specs.Lawful.{AreLawful}
use Rattle.script_laws.proofs.Happens.{in_order}
use Rattle.script_histories.specs.Histories.{deliveries_of, delivery_at, IsOneMore}
use Rattle.script_histories.proofs.Lists.{all_imply, all_turned, filter_map_same, turned}
use Rattle.script_histories.proofs.Reaching.{Reaches, delivery_is, entry_is, entry_stays, named_delivery, named_entry}
use Rattle.script_histories.proofs.Deliveries.{Pairs, Said, all_set_up, line_reaches, none_said, pairs}

all_reach : (lines : List Line) (ds : List script.Delivery) (es : List Delivery) → Pairs lines ds es
    → AllByRecursion (Reaches lines) ds
all_reach lines [] [] h = tt
all_reach lines [] (e ∷ es) h = absurd h
all_reach lines (d ∷ ds) [] h = absurd h
all_reach lines (d ∷ ds) (e ∷ es) h = (h.0.reaches, all_reach lines ds es h.1)

old_entries : (line : Line) (lines : List Line) → AreLawful lines → sets_up line ≡ false
    → filter_map (delivered_entry (line ∷ lines)) (deliveries_in lines) ≡ all_delivered lines
unfolding all_delivered
old_entries line lines l sets =
    let all : AllByRecursion (Reaches lines) (Said lines) = all_reach lines (Said lines) (deliveries_of lines) (pairs lines l) in
    filter_map_same (delivered_entry (line ∷ lines)) (delivered_entry lines) (reverse (Said lines))
    (all_turned (λ (d : script.Delivery). delivered_entry (line ∷ lines) d ≡ delivered_entry lines d) (Said lines)
    (all_imply (Reaches lines) (λ (d : script.Delivery). delivered_entry (line ∷ lines) d ≡ delivered_entry lines d)
    (λ d r. entry_stays line lines d sets r) (Said lines) all))

more_entries : (lines : List Line) (d : script.Delivery) (r : Reaches lines d) → AreLawful lines
    → all_delivered (DeliverLine d ∷ lines) ≡ all_delivered lines ++ named_entry lines d r ∷ []
unfolding all_delivered
more_entries lines d r l =
    let line : Line = DeliverLine d in
    ap (filter_map (delivered_entry (line ∷ lines))) (turned d (Said lines))
    ∙ filter_map-append (delivered_entry (line ∷ lines)) (reverse (Said lines)) (d ∷ [])
    ∙ ap (λ (xs : List Entry). xs ++ filter_map (delivered_entry (line ∷ lines)) (d ∷ [])) (old_entries line lines l refl)
    ∙ ap (λ (o : Option Entry). all_delivered lines ++ cons_option o [])
    (entry_stays line lines d refl r ∙ entry_is lines d r)

pub one_more : (lines : List Line) (d : script.Delivery) → AreLawful (DeliverLine d ∷ lines) → IsOneMore lines d
one_more lines d l =
    let r : Reaches lines d = line_reaches (DeliverLine d) lines d refl l.1 in
    record {
      delivery = named_delivery lines d r;
      entry = named_entry lines d r;
      delivery_is = delivery_is lines d r;
      entry_is = entry_is lines d r;
      deliveries = ap (λ (o : Option Delivery). cons_option o (deliveries_of lines)) (delivery_is lines d r);
      entries = more_entries lines d r l.2;
    }

none_arrived : (lines : List Line) → list_all sets_up lines ≡ true → all_delivered lines ≡ []
unfolding all_delivered
none_arrived lines e = ap (λ (ds : List script.Delivery). filter_map (delivered_entry lines) (reverse ds)) (none_said lines e)

entries_stay : (line : Line) (lines : List Line) → AreLawful lines → sets_up line ≡ false → delivery_in line ≡ None
    → all_delivered (line ∷ lines) ≡ all_delivered lines
unfolding all_delivered
entries_stay line lines l sets none =
    ap (λ (o : Option script.Delivery). filter_map (delivered_entry (line ∷ lines)) (reverse (cons_option o (Said lines)))) none
    ∙ old_entries line lines l sets

pub other_entries : (line : Line) (lines : List Line) → AreLawful (line ∷ lines) → delivery_in line ≡ None
    → all_delivered (line ∷ lines) ≡ all_delivered lines
other_entries line lines l none = go (sets_up line) refl
  where
    go : (b : Bool) → sets_up line ≡ b → all_delivered (line ∷ lines) ≡ all_delivered lines
    go true sets =
        none_arrived (line ∷ lines) (all_set_up line lines l sets) ∙ sym (none_arrived lines (in_order line lines l.1 sets))
    go false sets = entries_stay line lines l.2 sets none

pub other_deliveries : (line : Line) (lines : List Line) → delivery_in line ≡ None
    → deliveries_of (line ∷ lines) ≡ deliveries_of lines
other_deliveries line lines none =
    ap (λ (o : Option script.Delivery). cons_option (option_and_then (delivery_at lines) o) (deliveries_of lines)) none
