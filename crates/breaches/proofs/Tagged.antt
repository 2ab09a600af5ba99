-- Start tags and closing tags of a document that is accepted: the token that stands there, and the least breach in it.
use Prim.Native.Nat.{ℕ, suc, ◌+◌, ◌-◌, ◌≤◌}
use mathlib.Core.Path.{◌≡◌, refl, ap, sym, ◌∙◌}
use mathlib.Core.List.{List, [], ◌∷◌, map}
use mathlib.Core.Bool.{Bool, true, false}
use borrow.Author.Rules.{rules}
use native.Mathlib.Numerals.{add-one}
use native.Mathlib.Omega.{arith}
use lib.ListN.{length, take, drop}
use Rattle.std.specs.Prelude.{Result, Ok, Err, Option}
use Rattle.slices.specs.Bytes.{if, span, past, empty}
use Rattle.slices.specs.Run.{Run}
use Rattle.slices.proofs.Ends.{run_length, run_span, run_rest}
use Rattle.scan.specs.Classes.{white, name_byte}
use Rattle.answers.specs.Text.{Text, text, wrong}
use Rattle.references.specs.Unescape.{unescape}
use Rattle.document.specs.Tags.{Attr, Gathered, gathered, too_many, gather, Shown, Checked, good, also, member, check}
use Rattle.document.specs.Tags as tags
use Rattle.document.specs.Tokens.{Tag, Token, start, fault, Next, more, last, tag_end, with_shown, with_attrs, opening}
use Rattle.tags.specs.Outcome.{Ends}
use Rattle.tags.specs.declared.TagEnd.{TagEnd}
use Rattle.breaches.specs.Least.{lesser, least}
use Rattle.breaches.specs.Breaches.{in_values, in_name, in_names}
use Rattle.breaches.specs.Outcome.{attributes_breach, tag_breach, Collects, Starts}
use Rattle.breaches.specs.declared.Way.{Way}
use Rattle.breaches.proofs.Order.{lesser_swap, least_append}
use Rattle.breaches.proofs.Names.{tag_name}
use Rattle.faults.specs.declared.Fault.{Fault}

-- the check keeps the attributes
check_keeps : (seen : List (List ℕ)) (xs : List Attr) (ss : List Shown) → check seen xs ≡ good ss → map (λ (s : Shown). s.attr) ss ≡ xs
check_keeps seen [] ss e = let z : [] ≡ ss = cc in rw (← z)
check_keeps seen (a ∷ xs) ss e = go (member a.name seen) (unescape a.raw) (check (a.name ∷ seen) xs) (λ ys f. check_keeps (a.name ∷ seen) xs ys f) e
  where
    go : (u : Bool) (t : Text) (c : Checked) → ((ys : List Shown) → c ≡ good ys → map (λ (s : Shown). s.attr) ys ≡ xs) → if u (tags.fault 8 a.at) (also a t c) ≡ good ss → map (λ (s : Shown). s.attr) ss ≡ a ∷ xs
    go true t c f e = let z : ◌≡◌ {A = ℕ} 0 1 = cc in absurd (omega arith)
    go false (wrong n p) c f e = let z : ◌≡◌ {A = ℕ} 0 1 = cc in absurd (omega arith)
    go false (text t) (tags.fault n p) f e = let z : ◌≡◌ {A = ℕ} 0 1 = cc in absurd (omega arith)
    go false (text t) (good ys) f e =
        let z : record { attr = a; value = t } ∷ ys ≡ ss = cc in
        rw (← z) (ap (λ (l : List Attr). a ∷ l) (f ys refl))

-- what stands in a start tag with the token t, after which reading is at q
record Read (doc : List ℕ) (lt m : ℕ) (t : Token) (q : ℕ) : Type 0 where
  xs : List Attr
  l : List ℕ
  p : ℕ
  ss : List Shown
  gathers : gather 256 (drop m doc) m ≡ gathered xs l p
  checks : check [] xs ≡ good ss
  ends : tag_end lt (take (m - (lt + 1)) (drop (lt + 1) doc)) ss (past white l) (p + length (span white l)) ≡ more t q

module _ {doc : List ℕ} (lt : ℕ) {m : ℕ} (n : Run name_byte doc (lt + 1) m) where
  module _ (t : Token) (q : ℕ) where
    named : opening (drop (lt + 1) doc) lt ≡ more t q → with_attrs lt (take (m - (lt + 1)) (drop (lt + 1) doc)) (gather 256 (drop m doc) m) ≡ more t q
    unfolding opening
    named e =
        let k : suc lt + length (span name_byte (drop (lt + 1) doc)) ≡ m = omega (arith, run_length n, n.onward) in
        rw (run_rest n, k, run_span n) at (go (empty (span name_byte (drop (lt + 1) doc))) (with_attrs lt (span name_byte (drop (lt + 1) doc)) (gather 256 (past name_byte (drop (lt + 1) doc)) (suc lt + length (span name_byte (drop (lt + 1) doc))))) e)
      where
        go : (u : Bool) (x : Next) → if u (last (fault 4 (suc lt))) x ≡ more t q → x ≡ more t q
        go true x e = let z : ◌≡◌ {A = ℕ} 0 1 = cc in absurd (omega arith)
        go false x e = e

    reads : opening (drop (lt + 1) doc) lt ≡ more t q → Read doc lt m t q
    reads e = gathering (gather 256 (drop m doc) m) refl (named e)
      where
        checking : (xs : List Attr) (l : List ℕ) (p : ℕ) (c : Checked) → gather 256 (drop m doc) m ≡ gathered xs l p → check [] xs ≡ c → with_shown lt (take (m - (lt + 1)) (drop (lt + 1) doc)) c l p ≡ more t q → Read doc lt m t q
        checking xs l p (tags.fault k j) g f e = let z : ◌≡◌ {A = ℕ} 0 1 = cc in absurd (omega arith)
        checking xs l p (good ss) g f e = record { xs = xs; l = l; p = p; ss = ss; gathers = g; checks = f; ends = e }

        gathering : (g : Gathered) → gather 256 (drop m doc) m ≡ g → with_attrs lt (take (m - (lt + 1)) (drop (lt + 1) doc)) g ≡ more t q → Read doc lt m t q
        gathering (gathered xs l p) f e = checking xs l p (check [] xs) f refl e
        gathering (too_many p) f e = let z : ◌≡◌ {A = ℕ} 0 1 = cc in absurd (omega arith)

  pub start_inside : m ≤ length doc
  start_inside = n.within

  module _ {w : Way} (c : Collects doc m w) where
    pub collected_inside : w.at ≤ length doc
    collected_inside = c.inside

    module _ {e : Result TagEnd Fault} (f : Ends doc w.at e) where
      -- the tag's end
      ended : (t : Token) (q : ℕ) (r : Read doc lt m t q) → tag_end lt (take (m - (lt + 1)) (drop (lt + 1) doc)) r.ss (past white (drop w.at doc)) (w.at + length (span white (drop w.at doc))) ≡ more t q
      ended t q r =
          let d = c.is 256 r.xs r.l r.p r.gathers in
          rw (d.0, ← d.1) r.ends

      pub start_unended : {y : Fault} {b : Option ℕ} → e ≡ Err y → Starts doc lt (record { closes = true; at = length doc; breach = b })
      start_unended {y} {b} h = record {
        is = λ t q o.
            let r = reads t q o in
            let i : Ends doc w.at (Err y) = rw h at f in
            let k : last (fault 4 y.place) ≡ more t q = sym (i.is lt (take (m - (lt + 1)) (drop (lt + 1) doc)) r.ss).0 ∙ ended t q r in
            let z : ◌≡◌ {A = ℕ} 0 1 = cc in
            absurd (omega arith);
      }

      pub start_ended : {e' : TagEnd} {k b : Option ℕ} → k ≡ least (in_name (take (m - (lt + 1)) (drop (lt + 1) doc)) (lt + 1)) → b ≡ lesser k w.breach → e ≡ Ok e' → Starts doc lt (record { closes = e'.closes; at = e'.end; breach = b })
      unfolding tag_breach attributes_breach
      start_ended {e'} {k} {b} j h y = record {
        is = λ t p o.
            let r = reads t p o in
            let i : Ends doc w.at (Ok e') = rw y at f in
            let n = take (m - (lt + 1)) (drop (lt + 1) doc) in
            let g : Tag = record { at = lt; name = n; attrs = r.ss; self = e'.closes; after = e'.end } in
            let x : more (start g) e'.end ≡ more t p = sym (i.is lt n r.ss) ∙ ended t p r in
            let u : start g ≡ t = cc in
            let v : e'.end ≡ p = cc in
            let d = c.is 256 r.xs r.l r.p r.gathers in
            let a = check_keeps [] r.xs r.ss r.checks in
            (g, sym u, refl, v, h ∙ rw (j, d.2, a, least_append (in_name n (suc lt)) (in_names r.xs), ← add-one lt) (lesser_swap (least (in_name n (lt + 1))) (least (in_values r.xs)) (least (in_names r.xs))));
      }

pub ruleset startings = (tag_name, start_inside, collected_inside, start_unended, start_ended, rules)
