-- A command of its own for the worked examples: a required option, another one, and a flag.
use Rattle.std.specs.Prelude.{List, [], ◌∷◌, codes}
use Rattle.command_words.specs.declared.arguments.Form.TheVariants.{Flag, Optional, Required}
use Rattle.command_words.specs.Rules.{Rule}

abbrev pub example_rules : List Rule
example_rules =
    record { name = codes "turns"; form = Required }
    ∷ record { name = codes "listen"; form = Optional }
    ∷ record { name = codes "count"; form = Flag }
    ∷ []
