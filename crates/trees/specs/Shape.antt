-- The shape of a table (docs/FORMAT.md, Trees): which rows stand in which, in the order in which they are written.
use Rattle.std.specs.Prelude.{ℕ, suc, List, [], ◌∷◌, map, Bool, true, false, ◌&&◌, eqb, drop}
use Rattle.document.specs.Kinds as kinds
use Rattle.document.specs.Elements.{among}
use Rattle.items.specs.Words.{RowWords, rows_of}
use Rattle.trees.specs.Trees.{Tree, tree, Forest, bare, more, joined}

-- where a row stands: its kind, and its parent's row plus one
pub record Link : Type 0 where
  pub kind : ℕ
  pub parent : ℕ

abbrev pub link_of : RowWords → Link
link_of r = record { kind = r.kind; parent = r.parent }

-- of the first n rows of a table
abbrev pub links_of : ℕ → List ℕ → List Link
links_of n ws = map link_of (rows_of n ws)

-- the groups in which what stands in an element is written: types, args, members, annotations, nodes
abbrev pub types : List ℕ
types = kinds.definitions

abbrev pub args : List ℕ
args = kinds.arg ∷ []

-- of an interface its methods, properties and signals; of a definition its enumvalues or members; of a node its interfaces
abbrev pub members : List ℕ
members = kinds.interface ∷ kinds.method ∷ kinds.property ∷ kinds.signal ∷ kinds.enumvalue ∷ kinds.member ∷ []

abbrev pub annotations : List ℕ
annotations = kinds.annotation ∷ []

abbrev pub nodes : List ℕ
nodes = kinds.node ∷ []

-- group after group
abbrev pub grouped : {A : Type 0} → (List ℕ → Forest A) → Forest A
grouped g = joined (g types) (joined (g args) (joined (g members) (joined (g annotations) (g nodes))))

-- row k, if it is one, before those that follow; what stands in it is sought among the rows after it
abbrev pub chosen : Bool → ℕ → (List ℕ → Forest ℕ) → Forest ℕ → Forest ℕ
chosen true k inside f = more (tree k (grouped inside)) f
chosen false k inside f = f

-- whether a row is of one of the kinds, and its parent's row plus one is p
abbrev pub stands : List ℕ → ℕ → Link → Bool
stands ks p r = among r.kind ks && eqb r.parent p

-- of the rows from row k on, in row order: those of the kinds whose parent's row plus one is p, each with all under it
abbrev pub forest : List ℕ → ℕ → ℕ → List Link → Forest ℕ
forest ks p k [] = bare
forest ks p k (r ∷ rs) = chosen (stands ks p r) k (λ gs. forest gs (suc k) (suc k) rs) (forest ks p (suc k) rs)

-- all that stands in row i
abbrev pub under : ℕ → List Link → Forest ℕ
under i rs = grouped (λ ks. forest ks (suc i) (suc i) (drop (suc i) rs))

-- row i of the first n rows of a table, with all under it
unfoldable pub shape_at : List ℕ → ℕ → ℕ → Tree ℕ
shape_at ws n i = tree i (under i (links_of n ws))
