-- The limits of a collector, by the texts of their options.
use Rattle.std.specs.Prelude.{ℕ, Option, Some, None, codes, option_map, option_and_then}
use Rattle.books_spec.specs.declared.limits.Limits.{Limits}
use Rattle.books_spec.specs.Limits.{refused_limit, usual_limits}
use Rattle.command_words.specs.declared.limits.LimitTexts.{LimitTexts as Texts}
use Rattle.command_words.specs.Rules.{Text}
use Rattle.command_words.specs.Numbers.{number_in}

-- the texts of the options that are given
pub record LimitTexts : Type 0 where
  pub streams : Option Text
  pub sources : Option Text
  pub datagram_width : Option Text
  pub sample_width : Option Text
  pub boot_slack : Option Text

-- each by the name of its option
abbrev pub texts_by : (Text → Option Text) → LimitTexts
texts_by text_by = record {
  streams = text_by (codes "streams");
  sources = text_by (codes "sources");
  datagram_width = text_by (codes "datagram-width");
  sample_width = text_by (codes "sample-width");
  boot_slack = text_by (codes "boot-slack");
}

-- the number that the text writes, or the usual one where there is no text
abbrev pub number_or : ℕ → Option Text → Option ℕ
number_or usual None = Some usual
number_or usual (Some text) = number_in text

abbrev pub with_number : ℕ → Option Text → (ℕ → Option Limits) → Option Limits
with_number usual text more = option_and_then more (number_or usual text)

-- the limits, where none is out of its range
abbrev pub unless_refused : Option ℕ → Limits → Option Limits
unless_refused None limits = Some limits
unless_refused (Some number) limits = None

-- the limits that the texts ask for
abbrev pub limits_asked : LimitTexts → Option Limits
limits_asked texts =
    with_number usual_limits.streams texts.streams (λ streams.
    with_number usual_limits.sources texts.sources (λ sources.
    with_number usual_limits.datagram_width texts.datagram_width (λ datagram_width.
    with_number usual_limits.sample_width texts.sample_width (λ sample_width.
    with_number usual_limits.boot_slack texts.boot_slack (λ boot_slack.
    let limits : Limits = record {
      streams = streams;
      sources = sources;
      datagram_width = datagram_width;
      sample_width = sample_width;
      boot_slack = boot_slack;
    } in
    unless_refused (refused_limit limits) limits)))))

-- what the code has of the texts
abbrev pub texts_in : Texts → LimitTexts
texts_in texts = record {
  streams = option_map (λ text. text.now) texts.streams;
  sources = option_map (λ text. text.now) texts.sources;
  datagram_width = option_map (λ text. text.now) texts.datagram_width;
  sample_width = option_map (λ text. text.now) texts.sample_width;
  boot_slack = option_map (λ text. text.now) texts.boot_slack;
}
