-- The check of the attributes, one by one.
use Prim.Native.Nat.{ℕ, suc, ◌+◌, ◌≤◌, ◌<◌}
use mathlib.Core.Path.{◌≡◌, refl, sym, ap, ◌∙◌}
use mathlib.Core.List.{List, [], ◌∷◌, ◌++◌, map, map-append, append_assoc}
use mathlib.Core.Option.{Option, some}
use mathlib.Core.Bool.{Bool, true, false, not}
use borrow.Author.Rules.{rules}
use borrow.Author.Tests.{le-leb}
use native.Mathlib.Numerals.{add-one}
use native.Mathlib.Omega.{arith}
use lib.ListN.{length, take, drop, get_or}
use lib.Seq.{drop-cons, length-take-le, get_or-take, take-suc}
use Rattle.std.specs.Prelude.{Result, Ok, Err}
use Rattle.slices.specs.Bytes.{if, all, same}
use Rattle.slices.proofs.Runs.{if_same, eqb_swap}
use Rattle.answers.specs.Text.{text}
use Rattle.references.specs.Unescape.{plain, unescape}
use Rattle.references.proofs.Shapes.{unescape_plain}
use Rattle.document.specs.Tags.{Attr, Shown, Checked, good, fault, also, member, check}
use Rattle.attributes.specs.One.{attr_of, Fit}
use Rattle.attributes.specs.Lookup.{blank, part_is, name_is, keyed, first_by, value_of, value_in, Picks}
use Rattle.attributes.specs.Outcome.{Checkable, among, attrs_of, References, listed, there, Weighs, Judges, Checks}
use Rattle.document.specs.Outcome.{is_none, is_absent}
use Rattle.document.specs.declared.Form.{Form}
use Rattle.document.specs.declared.Value.{Value}
use Rattle.attributes.specs.declared.Attribute.{Attribute}
use Rattle.faults.specs.declared.Fault.{Fault}

-- ---- whether a name came before

same_swap : (a b : List ℕ) → same a b ≡ same b a
same_swap [] [] = refl
same_swap [] (y ∷ b) = refl
same_swap (x ∷ a) [] = refl
same_swap (x ∷ a) (y ∷ b) = rw (same_swap a b, eqb_swap x y)

-- the names of attributes, the last first, before others
abbrev pub back : List Attr → List (List ℕ) → List (List ℕ)
back [] seen = seen
back (x ∷ xs) seen = back xs (x.name ∷ seen)

pub back_more : (xs : List Attr) (x : Attr) (seen : List (List ℕ)) → back (xs ++ x ∷ []) seen ≡ x.name ∷ back xs seen
back_more [] x seen = refl
back_more (y ∷ xs) x seen = back_more xs x (y.name ∷ seen)

member_back : (n : List ℕ) (xs : List Attr) (seen : List (List ℕ)) → member n (back xs seen) ≡ if (listed n xs) true (member n seen)
member_back n [] seen = refl
member_back n (x ∷ xs) seen = member_back n xs (x.name ∷ seen) ∙ rw (same_swap n x.name) (go (listed n xs) (same x.name n))
  where
    go : (s t : Bool) → if s true (if t true (member n seen)) ≡ if (if t true s) true (member n seen)
    go true true = refl
    go true false = refl
    go false true = refl
    go false false = refl

pub member_listed : (n : List ℕ) (xs : List Attr) → member n (back xs []) ≡ listed n xs
member_listed n xs = member_back n xs [] ∙ if_same (listed n xs)

-- a name that lies in the document
pub name_within : (p : List ℕ → Bool) (doc : List ℕ) (a : Attribute) → a.name + a.name_len ≤ length doc → name_is p doc a ≡ p (attr_of doc a).name
unfolding part_is
name_within p doc a h = rw (le-leb (a.name + a.name_len) (length doc) h)

there_if : (t : Bool) (a : Attribute) (r : Option Attribute) → there (value_of (some a)) ≡ true → there (value_of (if t (some a) r)) ≡ if t true (there (value_of r))
there_if true a r h = h
there_if false a r h = refl

-- a value that is gathered is there
pub fit_there : {doc : List ℕ} {from to : ℕ} (a : Attribute) → Fit doc from to a → there (value_of (some a)) ≡ true
fit_there {doc} a f = rw f.form (go (all plain (attr_of doc a).raw))
  where
    go : (t : Bool) → not (is_none (if t Form.Plain Form.Changed)) ≡ true
    go true = refl
    go false = refl

-- a value whose form is plain is shown as it stands
pub plain_shown : {doc : List ℕ} {from to : ℕ} (a : Attribute) → Fit doc from to a → a.form ≡ Form.Plain → unescape (attr_of doc a).raw ≡ text (attr_of doc a).raw
plain_shown {doc} a f k = unescape_plain _ (go (all plain (attr_of doc a).raw) (sym f.form ∙ k))
  where
    go : (t : Bool) → ◌≡◌ {A = Form} (if t Form.Plain Form.Changed) Form.Plain → t ≡ true
    go true e = refl
    go false e = cc

-- the first with a name is there where the name is listed
first_listed : (doc n : List ℕ) (xs : List Attribute) → ((k : ℕ) → k < length xs → Fit doc 0 (length doc) (get_or xs k blank)) → there (value_of (first_by (name_is (keyed n) doc) xs)) ≡ listed n (map (attr_of doc) xs)
unfolding first_by
first_listed doc n [] h = refl
first_listed doc n (x ∷ xs) h =
    there_if (name_is (keyed n) doc x) x (first_by (name_is (keyed n) doc) xs) (fit_there x (h 0 (omega arith)))
    ∙ rw (name_within (keyed n) doc x (h 0 (omega arith)).name, first_listed doc n xs (λ k b. h (suc k) (omega arith)))

-- ---- one attribute

-- the attribute itself: duplicate, then reference
module _ {doc : List ℕ} {a : Attribute} (f : Fit doc 0 (length doc) a) where
  pub weigh_room : length doc ≤ 1048576 → (a.value + a.value_len ≤ length doc) × (length doc ≤ 1048576)
  weigh_room s = (f.value, s)

  module _ (before : Value) where
    pub weigh_duplicate : {f : Fault} → is_absent before ≡ false → f ≡ record { number = 8; place = a.name } → Weighs doc a before (Err f)
    weigh_duplicate h q = rw q record { is = λ c. rw h }

    module _ (e : is_absent before ≡ true) where
      new : there before ≡ false
      new = rw e

      pub weigh_plain : a.form ≡ Form.Plain → Weighs doc a before (Ok tt)
      weigh_plain k = record { is = ((attr_of doc a).raw, new, plain_shown a f k) }

      pub weigh_reference : {v : Result (Unit {0}) Fault} → References doc a.value a.value_len v → Weighs doc a before v
      weigh_reference {v} c = go v c
        where
          go : (v : Result (Unit {0}) Fault) → References doc a.value a.value_len v → Weighs doc a before v
          go (Ok tt) c = record { is = (c.is.0, new, c.is.1) }
          go (Err f) c = record { is = λ d. rw (new, c.is.1, c.is.2) }

pub ruleset weighs = (weigh_room, weigh_duplicate, weigh_plain, weigh_reference, rules)

-- after those before it
module _ {doc : List ℕ} {xs : List Attribute} {i : ℕ} (h : i < length xs) (g : Checkable doc xs) where
  pub judge_is : {m : ℕ} {v : Value} {r : Result (Unit {0}) Fault} → m ≡ among (get_or xs i blank).twin i → Picks (name_is (keyed (attr_of doc (get_or xs i blank)).name) doc) (take m xs) v → Weighs doc (get_or xs i blank) v r → Judges doc xs i r
  unfolding value_in first_by
  judge_is {m} {v} {r} e p w = record { is = rw (← seen (get_or xs i blank).twin refl (rw e at p)) w.is }
    where
      seen : (t : Bool) → (get_or xs i blank).twin ≡ t → Picks (name_is (keyed (attr_of doc (get_or xs i blank)).name) doc) (take (among t i) xs) v → there v ≡ listed (attr_of doc (get_or xs i blank)).name (attrs_of doc xs i)
      seen true f p =
          let e : length (take i xs) ≡ i = length-take-le i xs (omega arith) in
          ap there p.is
          ∙ first_listed doc (attr_of doc (get_or xs i blank)).name (take i xs) (λ k b. rw (get_or-take i xs k blank (omega arith)) (g.fitted.rule k (omega arith)))
      seen false f p = ap there p.is ∙ sym (g.fresh.rule i (omega arith) f)

-- ---- all attributes

-- attributes that are shown, before the others
abbrev pub onto : List Shown → Checked → Checked
onto ss (good s) = good (ss ++ s)
onto ss (fault k p) = fault k p

pub onto_onto : (a b : List Shown) (c : Checked) → onto a (onto b c) ≡ onto (a ++ b) c
onto_onto a b (good s) = rw append_assoc
onto_onto a b (fault k p) = refl

pub onto_also : (x : Attr) (t : List ℕ) (c : Checked) → also x (text t) c ≡ onto (record { attr = x; value = t } ∷ []) c
onto_also x t (good s) = refl
onto_also x t (fault k p) = refl

-- a check that stands at i: what was asked is what is asked of the rest, after those shown
pub record Checking (doc : List ℕ) (xs : List Attribute) (i : ℕ) : Type 0 where
  pub shown : List Shown
  pub left : check [] (map (attr_of doc) xs) ≡ onto shown (check (back (attrs_of doc xs i) []) (map (attr_of doc) (drop i xs)))

pub onto_none : (c : Checked) → onto [] c ≡ c
onto_none (good s) = refl
onto_none (fault k p) = refl

attrs_more : (doc : List ℕ) (xs : List Attribute) (i : ℕ) → i < length xs → attrs_of doc xs (suc i) ≡ attrs_of doc xs i ++ attr_of doc (get_or xs i blank) ∷ []
attrs_more doc xs i h = rw (take-suc xs i blank h) (map-append (attr_of doc) (take i xs) (get_or xs i blank ∷ []))

module _ {doc : List ℕ} {xs : List Attribute} {i : ℕ} (g : Checking doc xs i) where
  module _ (h : i < length xs) where
    -- the check of the one in hand
    here : check [] (map (attr_of doc) xs) ≡ onto g.shown (check (back (attrs_of doc xs i) []) (attr_of doc (get_or xs i blank) ∷ map (attr_of doc) (drop (suc i) xs)))
    here = g.left ∙ rw (drop-cons xs i blank h)

    pub check_fault : {f : Fault} → Judges doc xs i (Err f) → Checks doc xs (Err f)
    check_fault j = record { is = here ∙ rw (member_listed (attr_of doc (get_or xs i blank)).name (attrs_of doc xs i), j.is _) }

    pub check_more : Judges doc xs i (Ok tt) → Checking doc xs (i + 1)
    check_more j =
        let d = j.is in
        record {
          shown = g.shown ++ record { attr = attr_of doc (get_or xs i blank); value = d.0 } ∷ [];
          left =
              here
              ∙ rw (member_listed (attr_of doc (get_or xs i blank)).name (attrs_of doc xs i), d.1, d.2, onto_also (attr_of doc (get_or xs i blank)) d.0, onto_onto, add-one, attrs_more doc xs i h, back_more);
        }
