-- Why a collector isn't opened.
use Rattle.std.specs.Prelude.{◌≡◌, Some, None}
use Rattle.books_spec.specs.declared.limits.Limits.{Limits}
use Rattle.books_spec.specs.Limits.{refused_limit}
use Rattle.flow_collector.specs.declared.refusal.OpenRefusal.{OpenRefusal}
use Rattle.flow_collector.specs.declared.refusal.OpenRefusal.TheVariants.{BadLimit, Memory}

-- the first limit that is out of its range, or want of memory where there is none
abbrev pub IsRefusedBy : Limits → OpenRefusal → Type 0
IsRefusedBy l (BadLimit number) = refused_limit l ≡ Some number
IsRefusedBy l Memory = refused_limit l ≡ None
