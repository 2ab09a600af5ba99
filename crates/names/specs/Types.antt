-- Types and what they are written as, by the D-Bus Specification, Type System.
use Rattle.std.specs.Prelude.{ℕ, suc, max, ◌≤◌, ◌≡◌, List, [], ◌∷◌, ◌++◌, length}

-- the basic types
pub data Basic : Type 0 where
  byte boolean int16 uint16 int32 uint32 int64 uint64 double unix-fd string object-path signature : Basic

-- their type codes: y b n q i u x t d h s o g
abbrev pub code : Basic → ℕ
code byte = 121
code boolean = 98
code int16 = 110
code uint16 = 113
code int32 = 105
code uint32 = 117
code int64 = 120
code uint64 = 116
code double = 100
code unix-fd = 104
code string = 115
code object-path = 111
code signature = 103

mutual
  -- single complete types
  pub data Complete : Type 0 where
    basic : Basic → Complete
    variant : Complete
    array : Element → Complete
    struct : Fields → Complete

  -- what an array may hold: a complete type, or a dict entry of a basic key and a complete type
  pub data Element : Type 0 where
    single : Complete → Element
    entry : Basic → Complete → Element

  -- the fields of a struct, at least one
  pub data Fields : Type 0 where
    last : Complete → Fields
    more : Complete → Fields → Fields

abbrev mutual
  -- the code; v; a and the element; the fields in parentheses; key and value in braces
  pub written : Complete → List ℕ
  written (basic b) = code b ∷ []
  written variant = 118 ∷ []
  written (array e) = 97 ∷ written_element e
  written (struct f) = 40 ∷ written_fields f ++ (41 ∷ [])

  pub written_element : Element → List ℕ
  written_element (single t) = written t
  written_element (entry k t) = 123 ∷ code k ∷ written t ++ (125 ∷ [])

  pub written_fields : Fields → List ℕ
  written_fields (last t) = written t
  written_fields (more t f) = written t ++ written_fields f

abbrev mutual
  -- how many arrays are open at once, at the most
  pub arrays : Complete → ℕ
  arrays (basic b) = 0
  arrays variant = 0
  arrays (array e) = suc (arrays_element e)
  arrays (struct f) = arrays_fields f

  pub arrays_element : Element → ℕ
  arrays_element (single t) = arrays t
  arrays_element (entry k t) = arrays t

  pub arrays_fields : Fields → ℕ
  arrays_fields (last t) = arrays t
  arrays_fields (more t f) = max (arrays t) (arrays_fields f)

abbrev mutual
  -- how many parentheses are open at once, at the most
  pub parentheses : Complete → ℕ
  parentheses (basic b) = 0
  parentheses variant = 0
  parentheses (array e) = parentheses_element e
  parentheses (struct f) = suc (parentheses_fields f)

  pub parentheses_element : Element → ℕ
  parentheses_element (single t) = parentheses t
  parentheses_element (entry k t) = parentheses t

  pub parentheses_fields : Fields → ℕ
  parentheses_fields (last t) = parentheses t
  parentheses_fields (more t f) = max (parentheses t) (parentheses_fields f)

-- 32 arrays and 32 parentheses may be open at once
pub record Shallow (t : Complete) : Type 0 where
  pub few_arrays : arrays t ≤ 32
  pub few_parentheses : parentheses t ≤ 32

pub data AllShallow : List Complete → Type 0 where
  none : AllShallow []
  some : {t : Complete} {ts : List Complete} → Shallow t → AllShallow ts → AllShallow (t ∷ ts)

abbrev pub written_all : List Complete → List ℕ
written_all [] = []
written_all (t ∷ ts) = written t ++ written_all ts

-- a text of at most 255 bytes that is what some types within the limits are written as
pub record IsSignature (s : List ℕ) : Type 0 where
  pub types : List Complete
  pub shallow : AllShallow types
  pub spelled : written_all types ≡ s
  pub short : length s ≤ 255
