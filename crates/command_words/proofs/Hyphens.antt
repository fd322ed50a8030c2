-- Hyphens and `=` in a word.
use Rattle.std.proofs.Common.{◌≡◌, ◌≢◌, ◌<◌, ◌==◌, Bool, true, false, [], ◌∷◌, Option, Some, None, length, refl, ap, sym, subst, if◌then◌else◌, arith, nat_eq}
use Rattle.std.specs.Prelude.{option_map, MatchOption}
use Rattle.std.specs.List.{list_any, position_or_len}
use Rattle.std.specs.Borrow.{Bor}
use Rattle.std.proofs.lemmas.List.Folds.{list_any_none}
use Rattle.std.proofs.lemmas.List.Sums.{fails_before_first}
use Rattle.command_words.specs.Rules.{Text}
use Rattle.command_words.specs.Reading.{after_hyphen}

-- a hyphen taken off, or none there
pub after_hyphen-stripped : (word : Text) (r : Option (Bor Text))
    → MatchOption r ((rest : Text) → word ≢ 45 ∷ rest) (λ x. word ≡ 45 ∷ x.now)
    → option_map (λ rest. rest.now) r ≡ after_hyphen word
after_hyphen-stripped [] None none = refl
after_hyphen-stripped (first ∷ more) None none = go (nat_eq first 45) refl
  where
    go : (b : Bool) → nat_eq first 45 ≡ b → None ≡ (if b then Some more else None)
    go true e = absurd (none more (grind arith))
    go false e = refl
after_hyphen-stripped word (Some x) is = sym (ap after_hyphen is)

pub no_equals : (text : Text) → position_or_len (λ b. b == 61) text ≡ length text → list_any (λ b. b == 61) text ≡ false
no_equals text e = list_any_none _ text (λ k d lt. fails_before_first _ text k d (subst (λ n. k < n) (sym e) lt))
