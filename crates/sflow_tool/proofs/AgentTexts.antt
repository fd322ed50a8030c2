-- What is put of the datagrams that a script sends, line by line. Every list of lines has the LATEST FIRST.
use Rattle.std.proofs.Common.{◌≡◌, ◌∙◌, ◌+◌, ◌||◌, ◌==◌, ◌<◌, ℕ, Bool, true, false, List, [], ◌∷◌, ◌++◌, flat_map, map, length, drop, get_or, refl, sym, ap, subst, append_assoc, append-nil, arith}
use Rattle.std.specs.List.{AllByRecursion}
use Rattle.std.proofs.lemmas.List.Concat.{flat_map-append}
use Rattle.std.proofs.lemmas.Bool.{true≢false}
use Rattle.byte_ends.specs.Seen.{Seen}
use Rattle.text_lines.specs.Pages.{Puts}
use Rattle.text_lines.proofs.PageLaws.{texts-drop}
use Rattle.agent_outlets.specs.Outlets.{PutView, put_view}
use Rattle.agent_outlets.specs.declared.list_outlet.Put.{Put}
use Rattle.wire_spec.specs.Captures.{Entry, capture_bytes, capture_header, entry_bytes}
use Rattle.script_spec.specs.Lines.{Line}
use Rattle.script_spec.specs.Sent.{all_sent, sent_by}
use Rattle.sflow_tool.specs.Agents.{agent_part, agent_text, are_some, begun_entries, entries_put, opening}
use Rattle.sflow_tool.specs.AgentWalks.{IsShort, IsShortPut, entries_at, put_text, puts_text}

-- ---- further entries

begun_more : (xs ys : List Entry) → begun_entries (xs ++ ys) ≡ begun_entries xs ++ entries_put (are_some xs) ys
unfolding capture_bytes
begun_more [] [] = refl
begun_more [] (y ∷ ys) = refl
begun_more (x ∷ xs) [] = ap begun_entries (append-nil (x ∷ xs)) ∙ sym (append-nil (begun_entries (x ∷ xs)))
begun_more (x ∷ xs) (y ∷ ys) =
    ap (λ l. capture_header 1 ++ l) (flat_map-append entry_bytes (x ∷ xs) (y ∷ ys))
    ∙ sym (append_assoc (capture_header 1) (flat_map entry_bytes (x ∷ xs)) (flat_map entry_bytes (y ∷ ys)))

some_more : (xs ys : List Entry) → are_some (xs ++ ys) ≡ (are_some xs || are_some ys)
some_more [] ys = refl
some_more (x ∷ xs) ys = refl

begun_whole : (xs : List Entry) → begun_entries xs ++ opening (are_some xs) ≡ capture_bytes xs
unfolding capture_bytes
begun_whole [] = sym (append-nil (capture_header 1))
begun_whole (x ∷ xs) = append-nil (capture_bytes (x ∷ xs))

-- ---- a further line

pub part_more : (line : Line) (lines : List Line)
    → agent_part (line ∷ lines) ≡ agent_part lines ++ entries_put (are_some (all_sent lines)) (sent_by lines line)
unfolding all_sent
part_more line lines = begun_more (all_sent lines) (sent_by lines line)

pub some_line : (line : Line) (lines : List Line)
    → are_some (all_sent (line ∷ lines)) ≡ (are_some (all_sent lines) || are_some (sent_by lines line))
unfolding all_sent
some_line line lines = some_more (all_sent lines) (sent_by lines line)

pub nothing_part : agent_part [] ≡ []
unfolding all_sent
nothing_part = refl

pub nothing_some : are_some (all_sent []) ≡ false
unfolding all_sent
nothing_some = refl

-- the header stands behind all lines, where they send nothing
pub part_whole : (lines : List Line) → agent_part lines ++ opening (are_some (all_sent lines)) ≡ agent_text lines
part_whole lines = begun_whole (all_sent lines)

-- ---- the datagrams of one line

texts_put : (at : ℕ) (puts : List Put) → puts_text at puts ≡ flat_map entry_bytes (entries_at at (map put_view puts))
texts_put at [] = refl
texts_put at (p ∷ puts) = ap (λ l. put_text at p ++ l) (texts_put at puts)

some_texts : (opened : Bool) (at : ℕ) (puts : List Put) → (length puts ≡ 0 → ⊥)
    → opening opened ++ puts_text at puts ≡ entries_put opened (entries_at at (map put_view puts))
some_texts opened at [] some = absurd (some refl)
some_texts opened at (p ∷ puts) some = ap (λ l. opening opened ++ l) (texts_put at (p ∷ puts))

or_false : (b : Bool) → b ≡ (b || false)
or_false true = refl
or_false false = refl

or_true : (b : Bool) → true ≡ (b || true)
or_true true = refl
or_true false = refl

module _ (opened : Bool) (at : ℕ) (puts : List Put) (taken : List PutView) (are : map put_view puts ≡ taken) where
  -- there are none
  pub none_put : length puts ≡ 0 → entries_put opened (entries_at at taken) ≡ []
  none_put none = go puts none are
    where
      go : (ps : List Put) → length ps ≡ 0 → map put_view ps ≡ taken → entries_put opened (entries_at at taken) ≡ []
      go [] e is = ap (λ (t : List PutView). entries_put opened (entries_at at t)) (sym is)
      go (p ∷ ps) e is = absurd (omega (arith, e))

  pub none_opened : length puts ≡ 0 → opened ≡ (opened || are_some (entries_at at taken))
  none_opened none = go puts none are
    where
      go : (ps : List Put) → length ps ≡ 0 → map put_view ps ≡ taken → opened ≡ (opened || are_some (entries_at at taken))
      go [] e is = or_false opened ∙ ap (λ (t : List PutView). opened || are_some (entries_at at t)) is
      go (p ∷ ps) e is = absurd (omega (arith, e))

  -- there are some
  pub some_put : (length puts ≡ 0 → ⊥)
      → opening opened ++ puts_text at puts ≡ entries_put opened (entries_at at taken)
  some_put some =
      some_texts opened at puts some ∙ ap (λ (t : List PutView). entries_put opened (entries_at at t)) are

  pub some_opened : (length puts ≡ 0 → ⊥) → true ≡ (opened || are_some (entries_at at taken))
  some_opened some = go puts some are
    where
      go : (ps : List Put) → (length ps ≡ 0 → ⊥) → map put_view ps ≡ taken
          → true ≡ (opened || are_some (entries_at at taken))
      go [] more is = absurd (more refl)
      go (p ∷ ps) more is = or_true opened ∙ ap (λ (t : List PutView). opened || are_some (entries_at at t)) is

  -- they are short
  pub short_puts : AllByRecursion IsShort (entries_at at taken) → AllByRecursion IsShortPut puts
  short_puts short = go puts (subst (λ (t : List PutView). AllByRecursion IsShort (entries_at at t)) (sym are) short)
    where
      go : (ps : List Put) → AllByRecursion IsShort (entries_at at (map put_view ps)) → AllByRecursion IsShortPut ps
      go [] h = tt
      go (p ∷ ps) h = (h.0, go ps h.1)

-- of what is left from a place on, the one there is put first
pub text_next : (at : ℕ) (puts : List Put) (k : ℕ) (p : Put) → k < length puts → p ≡ get_or puts k p
    → puts_text at (drop k puts) ≡ put_text at p ++ puts_text at (drop (k + 1) puts)
text_next at puts k p within is =
    texts-drop (put_text at) puts k p within
    ∙ ap (λ (x : Put). put_text at x ++ puts_text at (drop (k + 1) puts)) (sym is)

pub not_empty : (puts : List Put) (b : Bool) → b ≡ (length puts == 0) → b ≡ false → length puts ≡ 0 → ⊥
not_empty [] b is none e = absurd (true≢false (sym is ∙ none))
not_empty (p ∷ puts) b is none e = absurd (omega (arith, e))

-- the same text in another form
pub put_whole : (a b : Seen) (p q text other : List ℕ) → text ≡ other → Puts a b p q text → Puts a b p q other
put_whole a b p q text other same put = subst (Puts a b p q) same put
