-- The first part of a text, and what stands behind it.
use Rattle.std.proofs.Common.{◌≡◌, ◌∙◌, ◌<◌, ◌==◌, ℕ, Bool, [], ◌∷◌, None, length, sym, ap, subst, if◌then◌else◌}
use Rattle.std.specs.List.{position_or_len, before_first, after_first}
use Rattle.std.proofs.lemmas.List.Folds.{list_any_none}
use Rattle.std.proofs.lemmas.List.Sums.{fails_before_first}
use Rattle.std.proofs.lemmas.List.Splits.{slice_split_first, slice_split_none}
use Rattle.script_spec.specs.Words.{Text}
use Rattle.script_spec.specs.Parts.{split_at}
use Rattle.relay_out.specs.Routes.{route_of, route_in}

pub cut_some : (c : ℕ) (text part rest : Text) → part ≡ before_first (λ b. b == c) text → rest ≡ after_first (λ b. b == c) text
    → position_or_len (λ b. b == c) text < length text → split_at c text ≡ part ∷ split_at c rest
cut_some c text part rest front back inside =
    slice_split_first (λ b. b == c) text 0 inside ∙ λ i. sym front i ∷ split_at c (sym back i)

pub cut_none : (c : ℕ) (text : Text) → position_or_len (λ b. b == c) text ≡ length text → split_at c text ≡ text ∷ []
cut_none c text all =
    slice_split_none (λ b. b == c) text (λ k d inside. fails_before_first (λ b. b == c) text k d (subst (λ n. k < n) (sym all) inside))

pub no_route : (text : Text) → position_or_len (λ b. b == 61) text ≡ length text → route_in text ≡ None
no_route text all =
    ap (λ (b : Bool). if b then route_of (before_first (λ b. b == 61) text) (after_first (λ b. b == 61) text) else None)
    (list_any_none _ text (λ k d lt. fails_before_first _ text k d (subst (λ n. k < n) (sym all) lt)))
