-- The members of a structure and one more at the end, as a head and the frames behind it.
use Rattle.wire_spec.specs.Shapes.{Shape, Shapes, end, ◌then◌, Tree, Trees, none, ◌&◌}

abbrev pub with_last : Shapes → Shape → Shapes
with_last end s = s then end
with_last (first then ss) s = first then with_last ss s

abbrev pub with_last_tree : Trees → Tree → Trees
with_last_tree none t = t & none
with_last_tree (first & ts) t = first & with_last_tree ts t
