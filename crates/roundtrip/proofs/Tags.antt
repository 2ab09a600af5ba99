-- A written tag is one token, whatever follows it.
use Prim.Native.Nat.{ℕ, zero, suc, ◌+◌, ◌≤◌}
use native.Mathlib.Nat.{sub_self}
use native.Mathlib.Omega.{arith}
use mathlib.Core.Path.{◌≡◌, refl, ap, ◌∙◌}
use mathlib.Core.List.{List, [], ◌∷◌, ◌++◌, append_assoc}
use mathlib.Core.Bool.{Bool, true, false}
use lib.Dec.{eqb}
use lib.ListN.{length, length-append}
use Rattle.slices.specs.Bytes.{other, span, past, all}
use Rattle.slices.proofs.Runs.{both, Stops, span_stops, past_stops}
use Rattle.scan.specs.Classes.{white, name_byte}
use Rattle.scan.specs.Ignorable.{ignorable}
use Rattle.scan.proofs.Class.{name_not_white}
use Rattle.references.specs.Escape.{escape}
use Rattle.references.proofs.RoundTrip.{escape_quoteless, unescape_escape}
use Rattle.document.specs.Tags.{Attr, found, absent, attribute, gathered, gather, Shown, good, check, member}
use Rattle.document.specs.Tokens as tokens
use Rattle.document.specs.Tokens.{Tag, start, close, more, tagged, tag_end, opening, closing, next}
use Rattle.items.specs.Written.{Pair, pair, pairs, ending, tag, closing_tag}

-- a name: one or more bytes of a name
abbrev pub Name : List ℕ → Type 0
Name [] = ⊥
Name (c ∷ n) = all name_byte (c ∷ n) ≡ true

-- an attribute that stands at a place
abbrev standing : ℕ → Pair → Attr
standing at p = record { at = at + 1; name = p.key; valued = at + length p.key + 3; raw = escape p.value }

stood : (a : ℕ) (n w r : List ℕ) (v v' p p' : ℕ) → v ≡ v' → p ≡ p' → found (record { at = a; name = n; valued = v; raw = w }) r p ≡ found (record { at = a; name = n; valued = v'; raw = w }) r p'
stood a n w r v v' p p' e f = λ i. found (record { at = a; name = n; valued = e i; raw = w }) r (f i)

attribute_flat : (at : ℕ) (k v r : List ℕ) → Name k → attribute (32 ∷ k ++ (61 ∷ 34 ∷ escape v ++ (34 ∷ r))) at ≡ found (standing at (record { key = k; value = v })) r (at + length (pair k v))
unfolding attribute
attribute_flat at [] v r h = absurd h
attribute_flat at (c ∷ k) v r h =
    let w : white c ≡ false = name_not_white c (both (name_byte c) (all name_byte k) h).0 in
    let q = escape_quoteless v in
    rw (w, span_stops name_byte (c ∷ k) (61 ∷ 34 ∷ escape v ++ (34 ∷ r)) h refl, past_stops name_byte (c ∷ k) (61 ∷ 34 ∷ escape v ++ (34 ∷ r)) h refl, span_stops (other 34) (escape v) (34 ∷ r) q refl, past_stops (other 34) (escape v) (34 ∷ r) q refl)
    (stood _ _ _ _ _ _ _ _ (omega arith) (simp (length-append) (omega arith)))

attribute_law : (at : ℕ) (p : Pair) (r : List ℕ) → Name p.key → attribute (pair p.key p.value ++ r) at ≡ found (standing at p) r (at + length (pair p.key p.value))
attribute_law at p r h = simp append_assoc (attribute_flat at p.key p.value r h)

-- the attributes that stand from a place on, and what they show
abbrev placed : ℕ → List Pair → List Attr
placed at [] = []
placed at (p ∷ ps) = standing at p ∷ placed (at + length (pair p.key p.value)) ps

abbrev shown_at : ℕ → List Pair → List Shown
shown_at at [] = []
shown_at at (p ∷ ps) = record { attr = standing at p; value = p.value } ∷ shown_at (at + length (pair p.key p.value)) ps

-- names, none of them seen before
abbrev pub Keys : List (List ℕ) → List Pair → Type 0
Keys seen [] = Unit {0}
Keys seen (p ∷ ps) = Name p.key × (member p.key seen ≡ false) × Keys (p.key ∷ seen) ps

gather_law : (n at : ℕ) (ps : List Pair) (seen : List (List ℕ)) (r : List ℕ) → length ps ≤ n → Keys seen ps → ((q : ℕ) → attribute r q ≡ absent) → gather n (pairs ps ++ r) at ≡ gathered (placed at ps) r (at + length (pairs ps))
unfolding gather
gather_law zero at [] seen r l h e = rw e (ap (gathered [] r) (omega arith))
gather_law (suc n) at [] seen r l h e = rw e (ap (gathered [] r) (omega arith))
gather_law zero at (p ∷ ps) seen r l h e = absurd (omega arith)
gather_law (suc n) at (p ∷ ps) seen r l h e =
    rw (append_assoc, attribute_law at p (pairs ps ++ r) h.0, gather_law n (at + length (pair p.key p.value)) ps (p.key ∷ seen) r (omega arith) h.2 e)
    (ap (gathered (placed at (p ∷ ps)) r) (omega (arith, length-append (pair p.key p.value) (pairs ps))))

check_law : (at : ℕ) (ps : List Pair) (seen : List (List ℕ)) → Keys seen ps → check seen (placed at ps) ≡ good (shown_at at ps)
check_law at [] seen h = refl
check_law at (p ∷ ps) seen h = rw (h.1, unescape_escape, check_law (at + length (pair p.key p.value)) ps (p.key ∷ seen) h.2)

-- a name that can begin a tag
abbrev pub TagName : List ℕ → Type 0
TagName [] = ⊥
TagName (c ∷ n) = (all name_byte (c ∷ n) ≡ true) × (eqb c 47 ≡ false) × (eqb c 33 ≡ false) × (eqb c 63 ≡ false)

abbrev pub tag_at : ℕ → List ℕ → List Pair → Bool → Tag
tag_at at n ps self = record {
  at = at;
  name = n;
  attrs = shown_at (suc at + length n) ps;
  self = self;
  after = at + length (tag n ps self);
}

no_attribute : (self : Bool) (r : List ℕ) (q : ℕ) → attribute (ending self ++ r) q ≡ absent
unfolding attribute
no_attribute true r q = refl
no_attribute false r q = refl

name_ends : (ps : List Pair) (self : Bool) (r : List ℕ) → Stops name_byte (pairs ps ++ (ending self ++ r))
name_ends [] true r = refl
name_ends [] false r = refl
name_ends (p ∷ ps) self r = refl

tagged_law : (at p : ℕ) (n : List ℕ) (xs : List Shown) (self : Bool) (r : List ℕ) → tag_end at n xs (past white (ending self ++ r)) (p + length (span white (ending self ++ r))) ≡ tagged at n xs self (p + length (ending self))
tagged_law at p n xs true r = ap (tagged at n xs true) (omega arith)
tagged_law at p n xs false r = ap (tagged at n xs false) (omega arith)

-- at a `<` that begins a tag nothing is ignorable
nothing_ignored : (c : ℕ) (l : List ℕ) (at : ℕ) → eqb c 33 ≡ false → eqb c 63 ≡ false → next (60 ∷ c ∷ l) at ≡ tokens.tag (c ∷ l) at
unfolding next ignorable
nothing_ignored c l at h k = rw (h, k, sub_self)

opening_law : (at : ℕ) (n : List ℕ) (ps : List Pair) (self : Bool) (r : List ℕ) → Name n → Keys [] ps → length ps ≤ 256 → opening (n ++ (pairs ps ++ (ending self ++ r))) at ≡ more (start (tag_at at n ps self)) (at + length (tag n ps self))
unfolding opening tag
opening_law at [] ps self r h k l = absurd h
opening_law at (c ∷ n) ps self r h k l =
    rw (span_stops name_byte (c ∷ n) (pairs ps ++ (ending self ++ r)) h (name_ends ps self r), past_stops name_byte (c ∷ n) (pairs ps ++ (ending self ++ r)) h (name_ends ps self r), gather_law 256 (suc at + length (c ∷ n)) ps [] (ending self ++ r) l k (no_attribute self r), check_law (suc at + length (c ∷ n)) ps [] k, tagged_law)
    (ap (tagged at (c ∷ n) (shown_at (suc at + length (c ∷ n)) ps) self) (omega (arith, length-append n (pairs ps ++ ending self), length-append (pairs ps) (ending self))))

pub tag_next : (at : ℕ) (n : List ℕ) (ps : List Pair) (self : Bool) (r : List ℕ) → TagName n → Keys [] ps → length ps ≤ 256 → next (60 ∷ n ++ (pairs ps ++ (ending self ++ r))) at ≡ more (start (tag_at at n ps self)) (at + length (tag n ps self))
tag_next at [] ps self r h k l = absurd h
tag_next at (c ∷ n) ps self r h k l =
    nothing_ignored c (n ++ (pairs ps ++ (ending self ++ r))) at h.2 h.3 ∙ rw h.1 (opening_law at (c ∷ n) ps self r h.0 k l)

closing_law : (at : ℕ) (n r : List ℕ) → Name n → closing (n ++ (62 ∷ r)) at ≡ more (close at n (at + length (closing_tag n))) (at + length (closing_tag n))
unfolding closing closing_tag
closing_law at [] r h = absurd h
closing_law at (c ∷ n) r h =
    rw (span_stops name_byte (c ∷ n) (62 ∷ r) h refl, past_stops name_byte (c ∷ n) (62 ∷ r) h refl)
    (ap (λ q. more (close at (c ∷ n) q) q) (omega (arith, length-append n (62 ∷ []))))

pub close_next : (at : ℕ) (n r : List ℕ) → Name n → next (60 ∷ 47 ∷ n ++ (62 ∷ r)) at ≡ more (close at n (at + length (closing_tag n))) (at + length (closing_tag n))
close_next at n r h = nothing_ignored 47 (n ++ (62 ∷ r)) at refl refl ∙ closing_law at n r h
