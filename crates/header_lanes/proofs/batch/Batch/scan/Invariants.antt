use Rattle.std.proofs.Common.{◌≡◌, ◌-◌, ◌++◌, map, take, replicate}
use Rattle.header_lanes.specs.declared.header.Kind.TheVariants.{Unscanned}
use Rattle.header_lanes.specs.Numbers.{bare}
use Rattle.header_lanes.specs.Slots.{owed}
use Rattle.header_lanes.proofs.batch.Batch.scan.Given as goal

abbrev pub invariant-loop-k : goal.invariant-loop-k
invariant-loop-k l = l.facts ≡ take l.k (map owed l.self-inside.slots) ++ replicate (16 - l.k) (bare Unscanned)
