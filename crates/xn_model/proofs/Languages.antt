-- The types that a catalogue gives, and where two catalogues give the same.
use Rattle.std.proofs.Common.{[], ◌≡◌, ◌≢◌, ℕ, ◌+◌, ◌-◌, ◌<◌, ◌≤◌, Bool, true, false, cond, ◌&&◌, List, drop, Option, Some, None, refl, sym, ◌∙◌, ap, inl, inr, arith, subst}
use Rattle.std.specs.Prelude.{◌==◌, Contains, IsTrue, is_some, nat_lt, option_map}
use Rattle.std.proofs.lemmas.Bool.{cases_Bool, cases_lt, eqb-true, eqb-false, ltb-true, lt-ltb, le-ltb, ne_eqb, false≢true, cond-true, cond-false}
use Rattle.xn_model.specs.Lists.{blank, blocks_of, distinct}
use Rattle.xn_model.specs.Types.{Types, fits}
use Rattle.xn_model.specs.Root.{HasBuiltIns, pointer, has_type, templates_of}
use Rattle.xn_model.specs.Languages.{Template, Language, types_in, language_template, language_template_named, root_template, data_template, owned_by_template, size_by_template}
use Rattle.xn_model.specs.Lives.{BlockState, Life, Lives, life_at, newest, current, bytes_of}
use Rattle.xn_model.specs.Calls.{latest, life_bytes, types_of}
use Rattle.xn_model.specs.Rules.{IsRootLife, IsTemplate}
use Rattle.xn_model.proofs.Changes.{each}
use Rattle.xn_model.proofs.Lists.{last_of}
use Rattle.xn_model.proofs.Lives.{each_at}
use Rattle.xn_model.proofs.RootBytes.{templates_from}
use Rattle.xn_model.proofs.Catalogue.{has_built_in, has_at, place_of}

pub built_ins_in : (L : Language) (content : ℕ → List ℕ) → HasBuiltIns (types_in L content)
unfolding types_in
built_ins_in L content = record {
  root = refl;
  template = refl;
  data_type = refl;
  few = λ t i. few t i;
  root_owns = λ m. refl;
  root_size = λ m. refl;
  template_owns = λ m. refl;
  template_size = λ m. refl;
  data_owns = λ m. refl;
  data_size = λ m. refl;
}
  where
    few : (t : ℕ) → is_some (language_template L content t) ≡ true → t ≤ 18
    few t i = elim (cases_lt t 19) [
      | inl lt ↦ omega arith
      | inr ge ↦ absurd (false≢true (sym (ap is_some (none t ge)) ∙ i))
    ]
      where
        none : (t : ℕ) → 19 ≤ t → language_template L content t ≡ None
        none t ge =
            cond-false (t == 0) (Some root_template) _ (false_eq t ge)
            ∙ (cond-false (nat_lt t 3) (Some data_template) _ (false_lt t 3 (omega arith)) ∙ cond-false (nat_lt t 19) (language_template_named L content (pointer (content 0) (t - 3))) None (false_lt t 19 ge))
          where
            false_lt : (a b : ℕ) → b ≤ a → nat_lt a b ≡ false
            false_lt a b le = elim (cases_Bool (nat_lt a b)) [ inl y ↦ let lt = ltb-true a b y in absurd (omega arith) | inr n ↦ n ]

            false_eq : (a : ℕ) → 19 ≤ a → (a == 0) ≡ false
            false_eq a le = elim (cases_Bool (a == 0)) [ inl y ↦ let e = eqb-true a 0 y in absurd (omega arith) | inr n ↦ n ]

-- a type that is there stands in block 0
pub installed_has : (L : Language) (content : ℕ → List ℕ) (t : ℕ) → IsTrue ((types_in L content).installed t) → has_type (content 0) t ≡ true
unfolding types_in
installed_has L content t i = elim (cases_lt t 3) [
  | inl low ↦ has_built_in (content 0) t low
  | inr ge ↦
      let few : t ≤ 18 = (built_ins_in L content).few t i in
      has_at (content 0) t (omega arith) (λ z. false≢true (sym (ap is_some (named t ge z)) ∙ i))
]
  where
    named : (t : ℕ) → 3 ≤ t → pointer (content 0) (t - 3) ≡ 0 → language_template L content t ≡ None
    named t ge z =
        cond-false (t == 0) (Some root_template) _ (elim (cases_Bool (t == 0)) [ inl y ↦ let e = eqb-true t 0 y in absurd (omega arith) | inr n ↦ n ])
        ∙ (cond-false (nat_lt t 3) (Some data_template) _ (elim (cases_Bool (nat_lt t 3)) [ inl y ↦ let lt = ltb-true t 3 y in absurd (omega arith) | inr n ↦ n ])
        ∙ (ap (λ p. cond (nat_lt t 19) (language_template_named L content p) None) z ∙ both (nat_lt t 19)))
      where
        both : (b : Bool) → cond b (language_template_named L content 0) None ≡ None
        both true = refl
        both false = refl

-- one that isn't there points to nothing
pub none_owned : (L : Language) (content : ℕ → List ℕ) (t : ℕ) (m : List ℕ) → (types_in L content).installed t ≡ false → (types_in L content).owned t m ≡ []
unfolding types_in
none_owned L content t m e = go (language_template L content t) e
  where
    go : (o : Option Template) → is_some o ≡ false → owned_by_template o m ≡ []
    go None f = refl
    go (Some x) f = absurd (false≢true (sym f))

-- Types that two catalogues have

pub same_template : (L : Language) (v w : ℕ → List ℕ) (t : ℕ) → has_type (v 0) t ≡ true → ((i : ℕ) → i < 16 → pointer (v 0) i ≢ 0 → (pointer (w 0) i ≡ pointer (v 0) i) × (w (pointer (v 0) i) ≡ v (pointer (v 0) i))) →
    language_template L w t ≡ language_template L v t
same_template L v w t has same = elim (place_of (v 0) t has) [
  | inl low ↦ ap (λ x. cond (t == 0) (Some root_template) x) (cond-true (nat_lt t 3) (Some data_template) _ low ∙ sym (cond-true (nat_lt t 3) (Some data_template) _ low))
  | inr p ↦
      let s = same (t - 3) (let lo = p.0 in let hi = p.1 in omega arith) p.2 in
      ap (λ x. cond (t == 0) (Some root_template) (cond (nat_lt t 3) (Some data_template) (cond (nat_lt t 19) x None)))
      (ap (language_template_named L w) s.0 ∙ ap (λ m. cond (pointer (v 0) (t - 3) == 0) None (L m)) s.1)
]

pub same_installed : (L : Language) (v w : ℕ → List ℕ) (t : ℕ) → language_template L w t ≡ language_template L v t → (types_in L w).installed t ≡ (types_in L v).installed t
unfolding types_in
same_installed L v w t e = ap is_some e

pub same_owned : (L : Language) (v w : ℕ → List ℕ) (t : ℕ) → language_template L w t ≡ language_template L v t → (types_in L w).owned t ≡ (types_in L v).owned t
unfolding types_in
same_owned L v w t e = λ i m. owned_by_template (e i) m

pub same_size : (L : Language) (v w : ℕ → List ℕ) (t : ℕ) → language_template L w t ≡ language_template L v t → (types_in L w).size t ≡ (types_in L v).size t
unfolding types_in
same_size L v w t e = λ i m. size_by_template (e i) m

pub template_is : (L : Language) (content : ℕ → List ℕ) (m : List ℕ) → (types_in L content).template m ≡ is_some (L m)
unfolding types_in
template_is L content m = refl

pub same_templates : (L : Language) (v w : ℕ → List ℕ) → (types_in L w).template ≡ (types_in L v).template
unfolding types_in
same_templates L v w = refl

-- for one type number
pub template_same : (L : Language) (v w : ℕ → List ℕ) (t : ℕ) → (3 ≤ t → t < 19 → pointer (w 0) (t - 3) ≡ pointer (v 0) (t - 3)) →
    (3 ≤ t → t < 19 → pointer (v 0) (t - 3) ≢ 0 → w (pointer (v 0) (t - 3)) ≡ v (pointer (v 0) (t - 3))) → language_template L w t ≡ language_template L v t
template_same L v w t at there = ap (λ x. cond (t == 0) (Some root_template) x) (elim (cases_lt t 3) [
  | inl low ↦ let y = lt-ltb t 3 low in cond-true (nat_lt t 3) (Some data_template) _ y ∙ sym (cond-true (nat_lt t 3) (Some data_template) _ y)
  | inr ge ↦ ap (λ x. cond (nat_lt t 3) (Some data_template) x) (elim (cases_lt t 19) [
    | inl few ↦ ap (λ x. cond (nat_lt t 19) x None) (ap (language_template_named L w) (at ge few) ∙ named (pointer (v 0) (t - 3)) (there ge few))
    | inr none ↦ let n = le-ltb t 19 none in cond-false (nat_lt t 19) (language_template_named L w (pointer (w 0) (t - 3))) None n ∙ sym (cond-false (nat_lt t 19) (language_template_named L v (pointer (v 0) (t - 3))) None n)
  ])
])
  where
    named : (p : ℕ) → (p ≢ 0 → w p ≡ v p) → language_template_named L w p ≡ language_template_named L v p
    named p e = elim (cases_Bool (p == 0)) [
      | inl z ↦ cond-true (p == 0) None (L (w p)) z ∙ sym (cond-true (p == 0) None (L (v p)) z)
      | inr ne ↦ ap (λ m. cond (p == 0) None (L m)) (e (eqb-false p 0 ne))
    ]

-- the template that a place of the catalogue names
pub template_there : (L : Language) (content : ℕ → List ℕ) (i b : ℕ) → i < 16 → b ≢ 0 → pointer (content 0) i ≡ b → language_template L content (3 + i) ≡ L (content b)
template_there L content i b few ne at =
    cond-false (3 + i == 0) (Some root_template) _ (ne_eqb (3 + i) 0 (λ z. absurd (omega (arith, z))))
    ∙ (cond-false (nat_lt (3 + i) 3) (Some data_template) _ (le-ltb (3 + i) 3 (omega arith))
    ∙ (cond-true (nat_lt (3 + i) 19) (language_template_named L content (pointer (content 0) (3 + i - 3))) None (lt-ltb (3 + i) 19 (omega arith))
    ∙ (ap (λ j. language_template_named L content (pointer (content 0) j)) (let same : 3 + i - 3 ≡ i = omega arith in same)
    ∙ (ap (language_template_named L content) at ∙ cond-false (b == 0) None (L (content b)) (ne_eqb b 0 ne)))))

-- all of them
pub types_same : (L : Language) (v w : ℕ → List ℕ) → ((i : ℕ) → i < 16 → pointer (w 0) i ≡ pointer (v 0) i) → ((i : ℕ) → i < 16 → pointer (v 0) i ≢ 0 → w (pointer (v 0) i) ≡ v (pointer (v 0) i)) →
    types_in L w ≡ types_in L v
unfolding types_in
types_same L v w at there = λ i. record {
  installed = λ t. is_some (same t i);
  owned = λ t m. owned_by_template (same t i) m;
  size = λ t m. size_by_template (same t i) m;
  template = λ m. is_some (L m);
}
  where
    same : (t : ℕ) → language_template L w t ≡ language_template L v t
    same t = template_same L v w t (λ lo hi. at (t - 3) (omega (arith, lo, hi))) (λ lo hi. there (t - 3) (omega (arith, lo, hi)))

-- what fits is the same
pub fits_same : (T more : Types) (t : ℕ) (m : List ℕ) → more.owned t ≡ T.owned t → more.size t ≡ T.size t → IsTrue (fits T t m) → IsTrue (fits more t m)
fits_same T more t m e f h =
    subst (λ o. IsTrue (distinct (blocks_of (o m)) && blank (drop (more.size t m) m))) (sym e)
    (subst (λ z. IsTrue (distinct (blocks_of (T.owned t m)) && blank (drop (z m) m))) (sym f) h)

-- The types of lives

pub latest_each : (g : ℕ → Life → Life) (lives : Lives) (c : ℕ) → ((l : Life) → life_at lives c ≡ Some l → current (g c l) ≡ current l) → latest (each g lives) c ≡ latest lives c
latest_each g lives c same = ap life_bytes (each_at g lives c) ∙ go (life_at lives c) same
  where
    go : (o : Option Life) → ((l : Life) → o ≡ Some l → current (g c l) ≡ current l) → life_bytes (option_map (g c) o) ≡ life_bytes o
    go None e = refl
    go (Some l) e = e l refl

-- they stay where block 0's pointers and the templates do
pub kept_types : (T : Types) (lives new : Lives) (r : IsRootLife T lives) (last : BlockState) → newest r.life ≡ Some last → ((i : ℕ) → i < 16 → pointer (latest new 0) i ≡ pointer (latest lives 0) i) →
    ((c : ℕ) → Contains (templates_of last.bytes) (c, 1) → IsTemplate T lives c → latest new c ≡ latest lives c) → (L : Language) → types_of L new ≡ types_of L lives
kept_types T lives new r last is_last at there L = types_same L (latest lives) (latest new) at (λ i lt ne.
    let newest_is : latest lives 0 ≡ last.bytes = ap life_bytes r.alive ∙ ap bytes_of is_last in
    let named = templates_from last.bytes i (pointer (latest lives 0) i) lt (ap (λ m. pointer m i) (sym newest_is)) ne in
    there (pointer (latest lives 0) i) named (r.templates last (pointer (latest lives 0) i) 1 (last_of r.life.durable r.life.pending last is_last) named))

-- and where the newest bytes of all blocks do
pub types_all : (lives new : Lives) → ((c : ℕ) → latest new c ≡ latest lives c) → (L : Language) → types_of L new ≡ types_of L lives
types_all lives new e L = λ i. types_in L (λ c. e c i)
