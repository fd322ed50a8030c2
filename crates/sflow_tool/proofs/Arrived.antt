-- What arrives along the lines of a script. Every list of lines has the LATEST FIRST.
use Rattle.std.proofs.Common.{◌≡◌, ◌∙◌, ◌≤◌, ◌+◌, Bool, List, [], ◌∷◌, ◌++◌, length, filter_map, Option, Some, None, refl, sym, ap, subst, arith}
use Rattle.std.specs.List.{cons_option}
use Rattle.std.proofs.lemmas.List.{length-reverse, map-append}
use Rattle.byte_ends.specs.Seen.{Seen}
use Rattle.books_spec.specs.declared.limits.Limits.{Limits}
use Rattle.capture_spec.specs.Items.{sent_by}
use Rattle.sample_taps.specs.declared.brief.Brief.{Brief}
use Rattle.sample_taps.specs.Feeding.{Held}
use Rattle.script_spec.specs.Lines.{Line, DeliverLine, Delivery}
use Rattle.script_spec.specs.Sent.{all_delivered, deliveries_in, delivered_entry, delivery_in}
use Rattle.script_spec.specs.Scripts.{nothing_yet}
use Rattle.script_spec.specs.Texts.{texts_in}
use Rattle.script_laws.specs.Lawful.{AreLawful}
use Rattle.script_laws.proofs.SoFar.{before_all}
use Rattle.script_histories.specs.Histories.{IsOneMore}
use Rattle.script_histories.proofs.MoreLines.{other_entries}
use Rattle.command_runs.specs.declared.status.Status.TheVariants.{Memory}
use Rattle.sflow_tool.specs.Collects.{received_of}
use Rattle.sflow_tool.specs.Replays.{briefs_in}
use Rattle.sflow_tool.specs.Trials.{HasTriedLines, received_in}

-- ---- nothing yet

pub nothing_arrived : received_in [] ≡ []
unfolding all_delivered
nothing_arrived = refl

pub nothing_fed : (l : Limits) → briefs_in l (received_in []) ≡ []
nothing_fed l = ap (briefs_in l) nothing_arrived

-- nor are consumers given anything
pub none_held : {X : Type 0} (step : X → Brief → X → Type 0) (done : X → Bool) (l : Limits) (xs : List X)
    → Held step done (briefs_in l (received_in [])) xs xs
none_held step done l xs = subst (λ (briefs : List Brief). Held step done briefs xs xs) (sym (nothing_fed l)) refl

-- before a byte was read no line was tried
pub none_tried : (takes : List Line → Type 0) (source : Seen) → takes [] → HasTriedLines takes source source Memory
none_tried takes source none = record {
  lines = [];
  were = none;
  tried = λ input told.
      record { behind = nothing_yet; more = texts_in input; so_far = before_all input; says = refl };
}

-- ---- a line more

-- one that delivers nothing
pub still_received : (line : Line) (lines : List Line) → AreLawful (line ∷ lines) → delivery_in line ≡ None
    → received_in (line ∷ lines) ≡ received_in lines
still_received line lines lawful e = ap received_of (other_entries line lines lawful e)

-- one that delivers a datagram
pub one_received : (d : Delivery) (lines : List Line) → (one : IsOneMore lines d)
    → received_in (DeliverLine d ∷ lines) ≡ received_in lines ++ sent_by None one.entry ∷ []
one_received d lines one =
    ap received_of one.entries ∙ map-append (sent_by None) (all_delivered lines) (one.entry ∷ [])

-- ---- no more than there are lines

one_at_most : {Y : Type 0} (o : Option Y) (ys : List Y) → length (cons_option o ys) ≤ 1 + length ys
one_at_most None ys = omega arith
one_at_most (Some y) ys = omega arith

few_of : {X Y : Type 0} (f : X → Option Y) (xs : List X) → length (filter_map f xs) ≤ length xs
few_of f [] = omega arith
few_of f (x ∷ more) = omega (arith, few_of f more, one_at_most (f x) (filter_map f more))

pub few_arrived : (lines : List Line) → length (all_delivered lines) ≤ length lines
unfolding all_delivered
few_arrived lines =
    omega (
      arith,
      few_of (delivered_entry lines) (deliveries_in lines),
      length-reverse (filter_map delivery_in lines),
      few_of delivery_in lines,
    )
