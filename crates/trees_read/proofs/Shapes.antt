-- Elements that have what their kinds need, kind by kind.
use Prim.Native.Nat.{ℕ, zero, suc}
use native.Mathlib.Omega.{arith}
use mathlib.Core.Path.{◌≡◌, refl, subst, sym}
use mathlib.Core.List.{List, [], ◌∷◌}
use mathlib.Core.Option.{Option, none, some}
use mathlib.Core.Bool.{Bool, true, false}
use borrow.Author.Tests.{eqb-true, leb-true}
use lib.Dec.{eqb, leb, ltb}
use Rattle.slices.specs.Bytes.{if}
use Rattle.slices.proofs.Runs.{and_both}
use Rattle.names.specs.Names.{interface_name, member_name, property_name}
use Rattle.names.specs.Signature.{signature}
use Rattle.document.specs.Kinds as kinds
use Rattle.document.specs.Elements.{among, some_signature, held_by, may_hold}
use Rattle.document.proofs.Tests.{Each, among_each}
use Rattle.items.specs.Sound.{Use, name_use, value_use, tp_use, valid_name, valid_value, valid_word, any_text}
use Rattle.trees_read.proofs.Good.{Fitting, Fit}

-- the kinds of rows
pub data Known : ℕ → Type 0 where
  node : Known 1
  interface : Known 2
  method : Known 3
  property : Known 4
  signal : Known 5
  annotation : Known 6
  arg : Known 7
  simple_type : Known 8
  enum : Known 9
  enumvalue : Known 10
  struct : Known 11
  member : Known 12
  mapping : Known 13

either : (P : List ℕ → Type 0) (b : Bool) {x y : List ℕ} → P x → P y → P (if b x y)
either P true h k = h
either P false h k = k

known_held : (k : ℕ) → Each Known (held_by k)
known_held k =
    either (Each Known) (eqb k kinds.node) (node, (interface, (simple_type, (enum, (struct, (mapping, tt))))))
    (either (Each Known) (eqb k kinds.interface) (method, (property, (signal, (annotation, (simple_type, (enum, (struct, (mapping, tt))))))))
    (either (Each Known) (among k kinds.callables) (annotation, (arg, tt))
    (either (Each Known) (among k kinds.values) (annotation, tt)
    (either (Each Known) (eqb k kinds.enum) (enumvalue, tt)
    (either (Each Known) (among k (kinds.struct ∷ kinds.mapping ∷ [])) (member, tt) tt)))))

-- what stands in an element is of a known kind
pub held_known : (k c : ℕ) → may_hold k c ≡ true → Known c
unfolding may_hold
held_known k c h = among_each Known c (held_by k) h (known_held k)

-- nodes stand in nodes only
pub node_in_node : (k : ℕ) → may_hold k kinds.node ≡ true → eqb k kinds.node ≡ true
unfolding may_hold
node_in_node k h = go (eqb k kinds.node) refl
  where
    rest : List ℕ
    rest = if (eqb k kinds.interface) kinds.in_interface (if (among k kinds.callables) kinds.in_callable (if (among k kinds.values) kinds.in_value (if (eqb k kinds.enum) (kinds.enumvalue ∷ []) (if (among k (kinds.struct ∷ kinds.mapping ∷ [])) (kinds.member ∷ []) []))))

    nodeless : List ℕ → Type 0
    nodeless ks = among kinds.node ks ≡ false

    none_there : nodeless rest
    none_there =
        either nodeless (eqb k kinds.interface) refl
        (either nodeless (among k kinds.callables) refl
        (either nodeless (among k kinds.values) refl (either nodeless (eqb k kinds.enum) refl (either nodeless (among k (kinds.struct ∷ kinds.mapping ∷ [])) refl refl))))

    go : (b : Bool) → eqb k kinds.node ≡ b → eqb k kinds.node ≡ true
    go true e = e
    go false e = let z : among kinds.node rest ≡ true = rw e at h in let w = none_there in cc

-- ---- texts and words

-- word 14 of a property, of an arg
pub data Access : ℕ → Type 0 where
  read : Access 1
  write : Access 2
  readwrite : Access 3

pub data Direction : ℕ → Type 0 where
  none_said : Direction 0
  inward : Direction 1
  outward : Direction 2

-- what an element has
pub data Shaped : ℕ → Option (List ℕ) → Option (List ℕ) → Option (List ℕ) → ℕ → Type 0 where
  node : (n : Option (List ℕ)) → Shaped 1 n none none 0
  interface : (n : List ℕ) → interface_name n ≡ true → Shaped 2 (some n) none none 0
  method : (n : List ℕ) → member_name n ≡ true → Shaped 3 (some n) none none 0
  property : (n v : List ℕ) (tp : Option (List ℕ)) (w : ℕ) → property_name n ≡ true → signature v ≡ true → Access w → Shaped 4 (some n) (some v) tp w
  signal : (n : List ℕ) → member_name n ≡ true → Shaped 5 (some n) none none 0
  annotation : (n v : List ℕ) → Shaped 6 (some n) (some v) none 0
  arg : (n : Option (List ℕ)) (v : List ℕ) (tp : Option (List ℕ)) (w : ℕ) → signature v ≡ true → Direction w → Shaped 7 n (some v) tp w
  simple_type : (n v : List ℕ) → some_signature v ≡ true → Shaped 8 (some n) (some v) none 0
  enum : (n v : List ℕ) → some_signature v ≡ true → Shaped 9 (some n) (some v) none 0
  enumvalue : (n v : List ℕ) → Shaped 10 (some n) (some v) none 0
  struct : (n : List ℕ) → Shaped 11 (some n) none none 0
  member : (n v : List ℕ) (tp : Option (List ℕ)) → some_signature v ≡ true → Shaped 12 (some n) (some v) tp 0
  mapping : (n : List ℕ) → Shaped 13 (some n) none none 0

there : (u : Use) (valid : List ℕ → Bool) (P : Option (List ℕ) → Type 0) → u.must ≡ true → (o : Option (List ℕ)) → Fitting u valid o → ((s : List ℕ) → valid s ≡ true → P (some s)) → P o
there u valid P m none h f = let z : ◌≡◌ {A = ℕ} 0 1 = cc in absurd (omega arith)
there u valid P m (some s) h f = f s h.2

missing : (u : Use) (valid : List ℕ → Bool) (P : Option (List ℕ) → Type 0) → u.may ≡ false → (o : Option (List ℕ)) → Fitting u valid o → P none → P o
missing u valid P m none h f = f
missing u valid P m (some s) h f = let e = h.0 in let z : ◌≡◌ {A = ℕ} 0 1 = cc in absurd (omega arith)

wordless : (P : ℕ → Type 0) (w : ℕ) → eqb w 0 ≡ true → P 0 → P w
wordless P w e h = subst P (sym (eqb-true w 0 e)) h

access : (w : ℕ) → valid_word kinds.property w ≡ true → Access w
access zero e = let z : ◌≡◌ {A = ℕ} 0 1 = cc in absurd (omega arith)
access (suc zero) e = read
access (suc (suc zero)) e = write
access (suc (suc (suc zero))) e = readwrite
access (suc (suc (suc (suc w)))) e = absurd (omega (arith, leb-true (suc (suc (suc (suc w)))) 3 (and_both (ltb 0 (suc (suc (suc (suc w))))) (leb (suc (suc (suc (suc w)))) 3) e).1))

direction : (w : ℕ) → valid_word kinds.arg w ≡ true → Direction w
direction zero e = none_said
direction (suc zero) e = inward
direction (suc (suc zero)) e = outward
direction (suc (suc (suc w))) e = absurd (omega (arith, leb-true (suc (suc (suc w))) 2 e))

-- the kinds that have a name alone, and those that have a name and a value
module _ {k : ℕ} (n v tp o : Option (List ℕ)) (w : ℕ) (f : Fit (record { kind = k; name = n; value = v; tp = tp; doc = o; word = w })) (named : (name_use k).must ≡ true) (untyped : (tp_use k).may ≡ false) (word : valid_word k w ≡ true → eqb w 0 ≡ true) where
  name_alone : (value_use k).may ≡ false → ((n : List ℕ) → valid_name k n ≡ true → Shaped k (some n) none none 0) → Shaped k n v tp w
  name_alone u h =
      there (name_use k) (valid_name k) (λ x. Shaped k x v tp w) named n f.name λ n i.
      missing (value_use k) (valid_value k) (λ x. Shaped k (some n) x tp w) u v f.value
      (missing (tp_use k) any_text (λ x. Shaped k (some n) none x w) untyped tp f.tp (wordless (λ x. Shaped k (some n) none none x) w (word f.word) (h n i)))

  name_value : (value_use k).must ≡ true → ((n v : List ℕ) → valid_value k v ≡ true → Shaped k (some n) (some v) none 0) → Shaped k n v tp w
  name_value u h =
      there (name_use k) (valid_name k) (λ x. Shaped k x v tp w) named n f.name λ n i.
      there (value_use k) (valid_value k) (λ x. Shaped k (some n) x tp w) u v f.value λ v j.
      missing (tp_use k) any_text (λ x. Shaped k (some n) (some v) x w) untyped tp f.tp (wordless (λ x. Shaped k (some n) (some v) none x) w (word f.word) (h n v j))

pub shaped : {k : ℕ} → Known k → (n v tp o : Option (List ℕ)) (w : ℕ) → Fit (record { kind = k; name = n; value = v; tp = tp; doc = o; word = w }) → Shaped k n v tp w
shaped {k} node n v tp o w f = missing (value_use k) (valid_value k) (λ x. Shaped k n x tp w) refl v f.value (missing (tp_use k) any_text (λ x. Shaped k n none x w) refl tp f.tp (wordless (λ x. Shaped k n none none x) w f.word (node n)))
shaped interface n v tp o w f = name_alone n v tp o w f refl refl (λ e. e) refl interface
shaped method n v tp o w f = name_alone n v tp o w f refl refl (λ e. e) refl method
shaped {k} property n v tp o w f = there (name_use k) (valid_name k) (λ x. Shaped k x v tp w) refl n f.name (λ n h. there (value_use k) (valid_value k) (λ x. Shaped k (some n) x tp w) refl v f.value (λ v i. property n v tp w h i (access w f.word)))
shaped signal n v tp o w f = name_alone n v tp o w f refl refl (λ e. e) refl signal
shaped annotation n v tp o w f = name_value n v tp o w f refl refl (λ e. e) refl (λ n v h. annotation n v)
shaped {k} arg n v tp o w f = there (value_use k) (valid_value k) (λ x. Shaped k n x tp w) refl v f.value (λ v i. arg n v tp w i (direction w f.word))
shaped simple_type n v tp o w f = name_value n v tp o w f refl refl (λ e. e) refl simple_type
shaped enum n v tp o w f = name_value n v tp o w f refl refl (λ e. e) refl enum
shaped enumvalue n v tp o w f = name_value n v tp o w f refl refl (λ e. e) refl (λ n v h. enumvalue n v)
shaped struct n v tp o w f = name_alone n v tp o w f refl refl (λ e. e) refl (λ n h. struct n)
shaped {k} member n v tp o w f = there (name_use k) (valid_name k) (λ x. Shaped k x v tp w) refl n f.name (λ n h. there (value_use k) (valid_value k) (λ x. Shaped k (some n) x tp w) refl v f.value (λ v i. wordless (λ x. Shaped k (some n) (some v) tp x) w f.word (member n v tp i)))
shaped mapping n v tp o w f = name_alone n v tp o w f refl refl (λ e. e) refl (λ n h. mapping n)
