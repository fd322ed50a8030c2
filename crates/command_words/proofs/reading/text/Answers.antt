use Rattle.std.proofs.Common.{◌≡◌, ◌∙◌, true, false, ℕ, Option, Bor, List, map, option_map, drop, string_bytes, ◌+◌, rules, sym, ap, arith}
use Rattle.std.specs.Str.{bytes_eq}
use Rattle.command_words.specs.Arguments.{rules_in}
use Rattle.command_words.specs.Meanings.{piece_of}
use Rattle.command_words.specs.Pieces.{name_in}
use Rattle.command_words.proofs.Texts.{text_from, text_from-start, text_here, text_later, text_opened, no_pieces, no_words, no_text_left}
use Rattle.command_words.proofs.reading.text.Goals as goal
use Rattle.command_words.proofs.reading.text.Goals.{in-Whole+else-eq, in-Opens}

pub returns-then-eq : goal.returns-then-eq
returns-then-eq c = λ pieces are.
    let here : true ≡ bytes_eq (name_in (piece_of c.in-Whole.piece)) c.args.name.now = search rules in
    c.text.ensures
    ∙ text_here string_bytes c.args.words.now _ c.word-item.result (omega arith) c.word-item.is _ _ _ _ c.as_str.ensures.value _
    (c.loop-word.invariant.same _ (sym (text_from-start _ _ _ pieces are))) (piece_of c.in-Whole.piece) c.in-Whole.ensures here

pub returns-in-Nothing : goal.returns-in-Nothing
returns-in-Nothing c = λ pieces are.
    no_pieces string_bytes c.args.words.now _ c.word-item.result (omega arith) c.word-item.is _ _ _ _ c.as_str.ensures.value _
    (c.loop-word.invariant.same _ (sym (text_from-start _ _ _ pieces are))) c.in-Nothing.ensures _

pub loop-word-preserved : goal.loop-word-preserved
loop-word-preserved c =
    let arguments = rules_in c.args.arguments.now in
    let rest = map string_bytes (drop (c.loop-word.word-index + 1) c.args.words.now) in
    let left : Option (Bor (List ℕ)) → Option (Option (List ℕ)) = λ o. text_from arguments c.args.name.now (option_map (λ option. option.now) o) rest in
    elim c.match-read_word.branch [
      | in-Whole+else-eq w ↦
          let here : false ≡ bytes_eq (name_in (piece_of w.in-Whole.piece)) c.args.name.now = search rules in
          record {
            same = λ t is.
                text_later string_bytes c.args.words.now _ c.word-item.result (omega arith) c.word-item.is _ _ _ _ c.as_str.ensures.value t
                (c.loop-word.invariant.same t is) (piece_of w.in-Whole.piece) w.in-Whole.ensures here
                ∙ sym (ap left w.waiting-is);
          }
      | in-Opens w ↦
          record {
            same = λ t is.
                text_opened string_bytes c.args.words.now _ c.word-item.result (omega arith) c.word-item.is _ _ _ _ c.as_str.ensures.value t
                (c.loop-word.invariant.same t is) w.in-Opens.option.now w.in-Opens.ensures
                ∙ sym (ap left w.waiting-is);
          }
    ]

pub returns : goal.returns
returns c = λ pieces are.
    no_text_left _ _ _ _
    (c.loop-word.invariant.same _ (sym (text_from-start _ _ _ pieces are))
    ∙ no_words string_bytes c.args.words.now _ _ _ _ c.loop-word-test.false)
