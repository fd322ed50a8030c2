-- A run that has put its last line and then writes what the page holds.
use Rattle.std.proofs.Common.{◌≡◌, ℕ, List, ◌++◌, sym, ap, subst, ◌∙◌, append_assoc}
use Rattle.byte_ends.specs.Seen.{Seen, Takes, TakesPart}
use Rattle.byte_ends.proofs.Prefixes.{prefix_after, takes-trans}
use Rattle.text_lines.specs.Pages.{Puts}
use Rattle.command_runs.specs.declared.status.Status.{Status}
use Rattle.command_runs.specs.Endings.{Flushed, whole, part}

module _ (a b c : Seen) (before held text : List ℕ) (status other result : Status) (put : Puts a b before held text)
    (named : status ≡ other) where
  -- the page held `before`, the text was put, and what it then held was written
  pub flushed_after : Flushed b c held status result → Flushed a c (before ++ text) other result
  flushed_after (whole is all) =
      whole (is ∙ named) (subst (Takes a c) (sym put.whole) (takes-trans a b c put.gone held put.taken all))
  flushed_after (part is some) =
      part is (subst (TakesPart a c) (sym put.whole) (prefix_after a b c put.gone held put.taken some))

  -- the same where more than that was written
  pub flushed_more : (more : List ℕ) → Flushed b c (held ++ more) status result
      → Flushed a c (before ++ (text ++ more)) other result
  flushed_more more flush =
      let same : put.gone ++ (held ++ more) ≡ before ++ (text ++ more) =
      sym (append_assoc put.gone held more) ∙ ap (λ l. l ++ more) (sym put.whole) ∙ append_assoc before text more in
      elim flush [
        | whole is all ↦ whole (is ∙ named) (subst (Takes a c) same (takes-trans a b c put.gone (held ++ more) put.taken all))
        | part is some ↦
            part is (subst (TakesPart a c) same (prefix_after a b c put.gone (held ++ more) put.taken some))
      ]
