-- The texts of several values.
use Rattle.std.specs.Prelude.{ℕ, ◌==◌, List, [], ◌++◌, codes, decimal, if◌then◌else◌}
use Rattle.wire_spec.specs.Shapes.{array, union, Tree, Trees, none, ◌&◌}
use Rattle.data_format.specs.Values.{number_of}

-- one after the other
abbrev pub texts_of : (Tree → List ℕ) → Trees → List ℕ
texts_of text none = []
texts_of text (t & more) = text t ++ texts_of text more

-- each but the first behind this; a dash where there are none
abbrev pub joined : List ℕ → (Tree → List ℕ) → Trees → List ℕ
joined between text none = codes "-"
joined between text (t & more) = text t ++ texts_of (λ u. between ++ text u) more

abbrev pub number_text : Tree → List ℕ
number_text t = decimal (number_of t)

-- a list of numbers
unfoldable pub list_text : Trees → List ℕ
list_text numbers = joined (codes ",") number_text numbers

-- numbers in a row, each behind a space
abbrev pub spaced_text : Trees → List ℕ
spaced_text numbers = texts_of (λ n. codes " " ++ number_text n) numbers

-- 1 is a set, 2 a sequence
abbrev pub segment_name : ℕ → List ℕ
segment_name k = if k == 1 then codes "set:" else codes "seq:"

-- a part of an AS path
unfoldable pub segment_text : Tree → List ℕ
segment_text (union k (array numbers)) = segment_name k ++ list_text numbers
segment_text _ = []

-- an AS path
unfoldable pub path_text : Trees → List ℕ
path_text segments = joined (codes ";") segment_text segments
