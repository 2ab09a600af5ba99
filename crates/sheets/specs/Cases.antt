-- Worked values: what is printed of the listing program's document, of refused and unreadable files, and of more than 512 names; lists of names.
use Rattle.std.specs.Prelude.{◌≡◌, ℕ, true, false, List, [], ◌∷◌, ◌++◌, replicate, refl}
use Rattle.slices.specs.Bytes.{bytes}
use Rattle.sheets.specs.Sheet.{Outcome, unreadable, refused, accepted}
use Rattle.sheets.specs.Names.{names_of, openable}
use Rattle.sheets.specs.Lines.{decimal, count_line, lines_by, printed}

abbrev pub line : List ℕ → List ℕ → List ℕ
line l ls = l ++ (10 ∷ ls)

-- a node, an interface, a method, and a warning for an unsupported element
abbrev pub listed : Outcome
listed = accepted (1 ∷ 2 ∷ 3 ∷ []) (1 ∷ [])

pub worked_one :
    printed (bytes "one.xml") (listed ∷ [])
    ≡ line (bytes "1 0 0") (line (bytes "k 1 1") (line (bytes "k 2 1") (line (bytes "k 3 1") (line (bytes "w 1 1") []))))
unfolding names_of decimal count_line lines_by
worked_one = refl

-- by number: 4 before 18
pub worked_refused :
    printed [] (refused 18 ∷ unreadable ∷ refused 4 ∷ listed ∷ refused 4 ∷ listed ∷ [])
    ≡ line (bytes "2 3 1") (line (bytes "r 4 2") (line (bytes "r 18 1") (line (bytes "k 1 2") (line (bytes "k 2 2") (line (bytes "k 3 2") (line (bytes "w 1 2") []))))))
unfolding names_of decimal count_line lines_by
worked_refused = refl

pub worked_none : printed [] [] ≡ line (bytes "0 0 0") []
unfolding names_of decimal count_line lines_by
worked_none = refl

pub worked_decimal : decimal 4294967295 ≡ bytes "4294967295"
unfolding decimal
worked_decimal = refl

-- empty lines are no names, CR belongs to one, and the last needs no LF
pub worked_names : names_of (10 ∷ 97 ∷ 13 ∷ 10 ∷ 10 ∷ 98 ∷ 32 ∷ 99 ∷ []) ≡ (97 ∷ 13 ∷ []) ∷ (98 ∷ 32 ∷ 99 ∷ []) ∷ []
unfolding names_of
worked_names = refl

pub worked_long : openable (replicate 256 97) ≡ false
unfolding openable
worked_long = refl

pub worked_short : openable (replicate 255 97) ≡ true
unfolding openable
worked_short = refl

pub worked_zero : openable (97 ∷ 0 ∷ []) ≡ false
unfolding openable
worked_zero = refl
