use Rattle.std.proofs.Common.{◌≡◌, ◌∙◌, true, false, ℕ, Option, Bor, List, [], map, option_map, drop, string_bytes, ◌+◌, rules, sym, ap, ap₂, arith}
use Rattle.std.specs.Str.{bytes_eq}
use Rattle.command_words.specs.Arguments.{rules_in}
use Rattle.command_words.specs.Meanings.{piece_of}
use Rattle.command_words.specs.Pieces.{name_in}
use Rattle.command_words.proofs.Counting.{count_from, count_from-start, count_from-end, count_from-waits, named_here, other_here, opened_here, nothing_here, no_words_left}
use Rattle.command_words.proofs.reading.count.Goals as goal
use Rattle.command_words.proofs.reading.count.Goals.{in-Whole+then-eq, in-Whole+else-eq, in-Opens}

pub returns-in-Nothing : goal.returns-in-Nothing
returns-in-Nothing c =
    sym (sym (count_from-start _ _ _) ∙ c.loop-word.invariant.same
    ∙ nothing_here string_bytes c.args.words.now _ c.word-item.result (omega arith) c.word-item.is _ _ _ _ _ c.as_str.ensures.value c.in-Nothing.ensures)

pub loop-word-preserved : goal.loop-word-preserved
loop-word-preserved c =
    let arguments = rules_in c.args.arguments.now in
    let rest = map string_bytes (drop (c.loop-word.word-index + 1) c.args.words.now) in
    let left : ℕ → Option (Bor (List ℕ)) → Option ℕ = λ n o. count_from arguments c.args.name.now (option_map (λ option. option.now) o) n rest in
    elim c.match-read_word.branch [
      | in-Whole+then-eq w ↦
          let here : true ≡ bytes_eq (name_in (piece_of w.in-Whole.piece)) c.args.name.now = search rules in
          record {
            short = omega arith;
            same = c.loop-word.invariant.same
                ∙ named_here string_bytes c.args.words.now _ c.word-item.result (omega arith) c.word-item.is _ _ _ _ _ c.as_str.ensures.value (piece_of w.in-Whole.piece) w.in-Whole.ensures here
                ∙ sym (ap₂ left w.count-is w.waiting-is);
          }
      | in-Whole+else-eq w ↦
          let here : false ≡ bytes_eq (name_in (piece_of w.in-Whole.piece)) c.args.name.now = search rules in
          record {
            short = omega arith;
            same = c.loop-word.invariant.same
                ∙ other_here string_bytes c.args.words.now _ c.word-item.result (omega arith) c.word-item.is _ _ _ _ _ c.as_str.ensures.value (piece_of w.in-Whole.piece) w.in-Whole.ensures here
                ∙ sym (ap₂ left w.count-is w.waiting-is);
          }
      | in-Opens w ↦
          record {
            short = omega arith;
            same = c.loop-word.invariant.same
                ∙ opened_here string_bytes c.args.words.now _ c.word-item.result (omega arith) c.word-item.is _ _ _ _ _ c.as_str.ensures.value w.in-Opens.option.now w.in-Opens.ensures
                ∙ sym (ap₂ left w.count-is w.waiting-is);
          }
    ]

pub returns-in-Some : goal.returns-in-Some
returns-in-Some c =
    let left : Option (Bor (List ℕ)) → Option ℕ = λ o. count_from (rules_in c.args.arguments.now) c.args.name.now (option_map (λ option. option.now) o) c.loop-word.count [] in
    sym (sym (count_from-start _ _ _) ∙ c.loop-word.invariant.same
    ∙ no_words_left string_bytes c.args.words.now _ _ _ _ _ c.loop-word-test.false
    ∙ ap left c.in-Some.is ∙ count_from-waits _ _ _ _)

pub returns-in-None : goal.returns-in-None
returns-in-None c =
    let left : Option (Bor (List ℕ)) → Option ℕ = λ o. count_from (rules_in c.args.arguments.now) c.args.name.now (option_map (λ option. option.now) o) c.loop-word.count [] in
    sym (sym (count_from-start _ _ _) ∙ c.loop-word.invariant.same
    ∙ no_words_left string_bytes c.args.words.now _ _ _ _ _ c.loop-word-test.false
    ∙ ap left c.in-None.is ∙ count_from-end _ _ _)
