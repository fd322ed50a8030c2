-- What a page does with the text that passes through it on its way to a sink.
use Rattle.std.specs.Prelude.{◌≡◌, ℕ, List, [], ◌++◌, MatchResult}
use Rattle.std.specs.declared.result.Result.{Result}
use Rattle.byte_ends.specs.Seen.{Seen, Takes, TakesPart}

-- the page held `before`, and now holds `after`: what went on to the sink, and then `after`, are `before` and
-- then the text; no call of the sink failed
pub record Puts (old new : Seen) (before after text : List ℕ) : Type 0 where
  pub gone : List ℕ
  pub taken : Takes old new gone
  pub whole : before ++ text ≡ gone ++ after

-- at Ok the page took the text, and else the sink took a prefix of what the page held and the text, and then one
-- call of it failed
abbrev pub Prints : {T E : Type 0} → Seen → Seen → List ℕ → List ℕ → Result T E → List ℕ → Type 0
Prints old new before after result text =
    MatchResult result (λ _. Puts old new before after text) (λ _. TakesPart old new (before ++ text))

-- at Ok the page went to the sink and is empty, and else the sink took a prefix, and then one call of it failed, and
-- the page is as before
abbrev pub Flushes : {T E : Type 0} → Seen → Seen → List ℕ → List ℕ → Result T E → Type 0
Flushes old new before after result = MatchResult result
    (λ _. Takes old new before × (after ≡ []))
    (λ _. TakesPart old new before × (after ≡ before))
