-- The values of the first attributes: they are those of the definition's lookups, and they fit.
use Prim.Native.Nat.{ℕ, suc, ◌≤◌, ◌<◌}
use mathlib.Core.Path.{◌≡◌, refl, sym, ap, ◌∙◌}
use mathlib.Core.List.{List, [], ◌∷◌, map}
use mathlib.Core.Option.{Option, none, some}
use mathlib.Core.Bool.{Bool, true, false}
use native.Mathlib.Omega.{arith}
use lib.ListN.{length, take, drop, get_or, length-drop}
use lib.Seq.{length-take-le, get_or-take}
use Rattle.slices.specs.Bytes.{if, bytes}
use Rattle.answers.specs.Text.{Text, text, wrong}
use Rattle.references.specs.Unescape.{unescape}
use Rattle.document.specs.declared.Form.{Form}
use Rattle.document.specs.Tags.{Attr, Shown, Checked, good, fault, also, member, check, lookup, is_tp_type, tp_type}
use Rattle.document.specs.Outcome.{Held, ValueIs, ValueFits, ValuesFit, ValuesAre}
use Rattle.attributes.specs.One.{attr_of, form_from, Fit}
use Rattle.attributes.specs.Lookup.{blank, name_is, keyed, is_tp, first_by, value_of, value_in, values_in}
use Rattle.attributes.specs.Outcome.{Fitted, attrs_of}
use Rattle.attributes.specs.declared.Attribute.{Attribute}
use Rattle.attributes.proofs.Checking.{name_within}

-- ---- the first of a kind, over what is shown

abbrev shown_by : (List ℕ → Bool) → List Shown → Option Shown
shown_by p [] = none
shown_by p (s ∷ ss) = let r = shown_by p ss in if (p s.attr.name) (some s) r

lookup_shown : (key : List ℕ) (ss : List Shown) → lookup key ss ≡ shown_by (keyed key) ss
lookup_shown key [] = refl
lookup_shown key (s ∷ ss) = rw (lookup_shown key ss)

tp_shown : (ss : List Shown) → tp_type ss ≡ shown_by is_tp_type ss
tp_shown [] = refl
tp_shown (s ∷ ss) = rw (tp_shown ss)

-- each is shown, in order
abbrev Showing : List ℕ → List Attribute → List Shown → Type 0
Showing doc [] [] = Unit {0}
Showing doc [] (s ∷ ss) = ⊥
Showing doc (y ∷ ys) [] = ⊥
Showing doc (y ∷ ys) (s ∷ ss) = (s.attr ≡ attr_of doc y) × (unescape s.attr.raw ≡ text s.value) × Showing doc ys ss

also_good : (doc : List ℕ) (y : Attribute) (ys : List Attribute) (u : Text) (c : Checked) (ss : List Shown) → unescape (attr_of doc y).raw ≡ u → also (attr_of doc y) u c ≡ good ss → ((s : List Shown) → c ≡ good s → Showing doc ys s) → Showing doc (y ∷ ys) ss
also_good doc y ys (wrong n p) c ss u e f = let z : ◌≡◌ {A = ℕ} 0 1 = cc in absurd (omega arith)
also_good doc y ys (text t) (fault n p) ss u e f = let z : ◌≡◌ {A = ℕ} 0 1 = cc in absurd (omega arith)
also_good doc y ys (text t) (good s) ss u e f =
    let q : record { attr = attr_of doc y; value = t } ∷ s ≡ ss = cc in
    rw (← q) (refl, u, f s refl)

check_shown : (doc : List ℕ) (seen : List (List ℕ)) (ys : List Attribute) (ss : List Shown) → check seen (map (attr_of doc) ys) ≡ good ss → Showing doc ys ss
check_shown doc seen [] ss e = let q : [] ≡ ss = cc in rw (← q) tt
check_shown doc seen (y ∷ ys) ss e = go (member (attr_of doc y).name seen) e (check_shown doc ((attr_of doc y).name ∷ seen) ys)
  where
    go : (t : Bool) → if t (fault 8 y.name) (also (attr_of doc y) (unescape (attr_of doc y).raw) (check ((attr_of doc y).name ∷ seen) (map (attr_of doc) ys))) ≡ good ss → ((s : List Shown) → check ((attr_of doc y).name ∷ seen) (map (attr_of doc) ys) ≡ good s → Showing doc ys s) → Showing doc (y ∷ ys) ss
    go true e f = let z : ◌≡◌ {A = ℕ} 0 1 = cc in absurd (omega arith)
    go false e f = also_good doc y ys (unescape (attr_of doc y).raw) (check ((attr_of doc y).name ∷ seen) (map (attr_of doc) ys)) ss refl e f

-- ---- the values

abbrev pub AllFit : List ℕ → ℕ → ℕ → List Attribute → Type 0
AllFit doc from to ys = (k : ℕ) → k < length ys → Fit doc from to (get_or ys k blank)

module _ (q : Attribute → Bool) (doc : List ℕ) (from to : ℕ) (b : to ≤ length doc) where
  held : (y : Attribute) (s : Shown) → Fit doc from to y → s.attr ≡ attr_of doc y → unescape s.attr.raw ≡ text s.value → Held doc (value_of (some y)) s
  held y s f e u = record {
    at = sym (ap (λ (a : Attr). a.valued) e);
    len = sym (ap (λ (a : Attr). length a.raw) e ∙ length-take-le y.value_len (drop y.value doc) (rw length-drop (omega (arith, f.value))));
    raw = sym (ap (λ (a : Attr). a.raw) e);
    form = f.form ∙ ap (λ (a : Attr). form_from Form.Plain a.raw) (sym e);
    shows = u;
  }

  -- what is asked of an attribute is asked of its name
  value-is : (p : List ℕ → Bool) → ((y : Attribute) → Fit doc from to y → q y ≡ p (attr_of doc y).name) → (ys : List Attribute) (ss : List Shown) → Showing doc ys ss → AllFit doc from to ys → ValueIs doc (value_in q ys) (shown_by p ss)
  unfolding value_in first_by
  value-is p w [] [] h f = refl
  value-is p w [] (s ∷ ss) h f = absurd h
  value-is p w (y ∷ ys) [] h f = absurd h
  value-is p w (y ∷ ys) (s ∷ ss) h f =
      let g : Fit doc from to y = f 0 (omega arith) in
      let e : p s.attr.name ≡ p (attr_of doc y).name = ap (λ (a : Attr). p a.name) h.0 in
      rw (w y g, e) (go (p (attr_of doc y).name) g (value-is p w ys ss h.2 (λ k l. f (suc k) (omega arith))))
    where
      go : (t : Bool) → Fit doc from to y → ValueIs doc (value_in q ys) (shown_by p ss) → ValueIs doc (value_of (if t (some y) (first_by q ys))) (if t (some s) (shown_by p ss))
      go true g i = held y s g h.0 h.1
      go false g i = i

  value_fits : from ≤ to → (ys : List Attribute) → AllFit doc from to ys → ValueFits from to (value_in q ys)
  unfolding value_in first_by
  value_fits l [] f = record { until = omega arith; short = omega arith }
  value_fits l (y ∷ ys) f = go (q y) (f 0 (omega arith)) (value_fits l ys (λ k b. f (suc k) (omega arith)))
    where
      go : (t : Bool) → Fit doc from to y → ValueFits from to (value_in q ys) → ValueFits from to (value_of (if t (some y) (first_by q ys)))
      go true g i = record { until = g.value; short = g.short }
      go false g i = i

module _ {doc : List ℕ} {from to : ℕ} {xs : List Attribute} {n : ℕ} (g : Fitted doc from to xs n) (l : n ≤ length xs) (b : to ≤ length doc) where
  pub all_fit : AllFit doc from to (take n xs)
  all_fit k h =
      let e : length (take n xs) ≡ n = length-take-le n xs l in
      rw (get_or-take n xs k blank (omega arith)) (g.rule k (omega arith))

  fits_one : (q : Attribute → Bool) → from ≤ to → ValueFits from to (value_in q (take n xs))
  fits_one q h = value_fits q doc from to b h (take n xs) all_fit

  pub values_fit : from ≤ to → ValuesFit from to (values_in doc (take n xs))
  unfolding values_in
  values_fit h = record {
    name = fits_one (name_is (keyed (bytes "name")) doc) h;
    ty = fits_one (name_is (keyed (bytes "type")) doc) h;
    value = fits_one (name_is (keyed (bytes "value")) doc) h;
    access = fits_one (name_is (keyed (bytes "access")) doc) h;
    direction = fits_one (name_is (keyed (bytes "direction")) doc) h;
    suffix = fits_one (name_is (keyed (bytes "suffix")) doc) h;
    tp = fits_one is_tp h;
  }

  module _ {ss : List Shown} (c : check [] (attrs_of doc xs n) ≡ good ss) where
    is_one : (q : Attribute → Bool) (p : List ℕ → Bool) → ((y : Attribute) → Fit doc from to y → q y ≡ p (attr_of doc y).name) → ValueIs doc (value_in q (take n xs)) (shown_by p ss)
    is_one q p w = value-is q doc from to b p w (take n xs) ss (check_shown doc [] (take n xs) ss c) all_fit

    is_keyed : (key : List ℕ) → ValueIs doc (value_in (name_is (keyed key) doc) (take n xs)) (lookup key ss)
    is_keyed key = rw lookup_shown (is_one (name_is (keyed key) doc) (keyed key) (λ y f. name_within (keyed key) doc y (omega (arith, f.name))))

    pub values_are : ValuesAre doc (values_in doc (take n xs)) ss
    unfolding values_in
    values_are = record {
      name = is_keyed (bytes "name");
      ty = is_keyed (bytes "type");
      value = is_keyed (bytes "value");
      access = is_keyed (bytes "access");
      direction = is_keyed (bytes "direction");
      suffix = is_keyed (bytes "suffix");
      tp = rw tp_shown (is_one is_tp is_tp_type (λ y f. f.tp));
    }
