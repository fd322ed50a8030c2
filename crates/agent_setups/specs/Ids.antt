-- Lists of sources.
use Rattle.std.specs.Prelude.{◌≢◌, ◌==◌, ◌&&◌, ◌||◌, nat_le, nat_lt, Bool, false, List, [], ◌∷◌}
use Rattle.std.specs.List.{AllByRecursion}
use Rattle.data_format.specs.declared.source.SourceId.{SourceId}

abbrev pub same_id : SourceId → SourceId → Bool
same_id x y = (x.class == y.class) && (x.index == y.index)

-- the source is one of these
abbrev pub is_among : SourceId → List SourceId → Bool
is_among id [] = false
is_among id (x ∷ more) = same_id x id || is_among id more

-- some source stands twice
abbrev pub has_twice : List SourceId → Bool
has_twice [] = false
has_twice (x ∷ more) = is_among x more || has_twice more

-- no two of these are one source
abbrev pub AreDistinct : List SourceId → Type 0
AreDistinct [] = Unit {0}
AreDistinct (x ∷ more) = AllByRecursion (λ (y : SourceId). x ≢ y) more × AreDistinct more

-- some class is above 255
abbrev pub has_great_class : List SourceId → Bool
has_great_class [] = false
has_great_class (x ∷ more) = nat_lt 255 x.class || has_great_class more

-- some index is 2^24 or more
abbrev pub has_great_index : List SourceId → Bool
has_great_index [] = false
has_great_index (x ∷ more) = nat_le 16777216 x.index || has_great_index more
