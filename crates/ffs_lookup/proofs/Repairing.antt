-- What an inode needs, case by case, and what is said of all of them.
use Rattle.std.proofs.Common.{◌≡◌, ◌≢◌, ◌⊎◌, ℕ, ◌+◌, ◌-◌, ◌<◌, ◌≤◌, inl, inr, Bool, true, false, List, length, get_or, set, replicate, Ok, Err, refl, sym, ◌∙◌, ap, arith, Result, nat_lt, slice_index_or, if◌then◌else◌}
use Rattle.std.proofs.lemmas.Bool.{cases_eq, cases_lt, eq-eqb, le-ltb, lt-ltb, ne_eqb}
use Rattle.std.proofs.lemmas.List.{get_or-replicate, get_or-set_other, get_or-set_same, get_or_past, length-replicate, length-set}
use Rattle.ffs_model.specs.Library.{inode_links}
use Rattle.ffs_lookup.specs.declared.fault.FfsFault.{FfsFault}
use Rattle.ffs_lookup.specs.declared.fault.FfsFault.TheVariants.{NoEntry}
use Rattle.ffs_lookup.specs.declared.repairs.Repair.{Repair}
use Rattle.ffs_lookup.specs.declared.repairs.Repair.TheVariants.{Keep, GiveUp, SetLinks}
use Rattle.ffs_lookup.specs.Newest.{inode_in}
use Rattle.ffs_lookup.specs.Counts.{names_count}
use Rattle.ffs_lookup.specs.Repairs.{is_bare_in, repair_at, repair_found, repair_in, repair_of}
use Rattle.ffs_lookup.proofs.Newest.{bad_number, no_number}

module _ (content : ℕ → List ℕ) (inode : List ℕ) where
  pub unnamed_repair : (count : ℕ) → count ≡ 0 → (bare : Bool) → bare ≡ is_bare_in content inode → (if bare then GiveUp else Keep) ≡ repair_of content count inode
  unnamed_repair count none bare is =
      ap (λ (t : Bool). if t then GiveUp else Keep) is
      ∙ ap (λ (t : Bool). if t then (if is_bare_in content inode then GiveUp else Keep) else if nat_lt count (inode_links inode) then SetLinks count else Keep) (sym (eq-eqb count 0 none))

  pub few_repair : (count : ℕ) → count ≢ 0 → count < inode_links inode → SetLinks count ≡ repair_of content count inode
  few_repair count some less =
      ap (λ (t : Bool). if t then SetLinks count else Keep) (sym (lt-ltb count (inode_links inode) less))
      ∙ ap (λ (t : Bool). if t then (if is_bare_in content inode then GiveUp else Keep) else if nat_lt count (inode_links inode) then SetLinks count else Keep) (sym (ne_eqb count 0 some))

  pub enough_repair : (count : ℕ) → count ≢ 0 → inode_links inode ≤ count → Keep ≡ repair_of content count inode
  enough_repair count some enough =
      ap (λ (t : Bool). if t then SetLinks count else Keep) (sym (le-ltb count (inode_links inode) enough))
      ∙ ap (λ (t : Bool). if t then (if is_bare_in content inode then GiveUp else Keep) else if nat_lt count (inode_links inode) then SetLinks count else Keep) (sym (ne_eqb count 0 some))

-- Of all inodes

repair_of_one : (content : ℕ → List ℕ) (fs n : ℕ) → n ≡ 1 → repair_in content fs n ≡ Keep
unfolding repair_in
repair_of_one content fs n e = ap (λ (t : Bool). if t then Keep else repair_found content (names_count content fs n) (inode_in content fs n)) (eq-eqb n 1 e)

pub repair_of_other : (content : ℕ → List ℕ) (fs n : ℕ) → n ≢ 1 → repair_in content fs n ≡ repair_found content (names_count content fs n) (inode_in content fs n)
unfolding repair_in
repair_of_other content fs n ne = ap (λ (t : Bool). if t then Keep else repair_found content (names_count content fs n) (inode_in content fs n)) (ne_eqb n 1 ne)

-- there is no inode with such a number
repair_of_none : (content : ℕ → List ℕ) (fs n : ℕ) → Err NoEntry ≡ inode_in content fs n → n ≢ 1 → repair_in content fs n ≡ Keep
repair_of_none content fs n e ne = repair_of_other content fs n ne ∙ ap (repair_found content (names_count content fs n)) (sym e)

pub unnumbered_repair : (content : ℕ → List ℕ) (fs n : ℕ) → (n ≡ 0) ⊎ ((n ≢ 0) × (128 < n)) → repair_in content fs n ≡ Keep
unnumbered_repair content fs n bad = repair_of_none content fs n (no_number content fs n (bad_number n bad)) (elim bad [ inl e ↦ λ z. absurd (omega (arith, e, z)) | inr h ↦ let high = h.1 in λ z. absurd (omega (arith, high, z)) ])

-- What is found of those below a number
pub record AreFound (content : ℕ → List ℕ) (fs : ℕ) (each : List Repair) (at : ℕ) : Type 0 where
  pub long : length each ≡ 128
  pub low : (i : ℕ) → i < at → slice_index_or each i Keep ≡ repair_in content fs (i + 1)

pub found_first : (content : ℕ → List ℕ) (fs : ℕ) → AreFound content fs (replicate 128 Keep) 1
found_first content fs = record {
  long = length-replicate {A = Repair} 128 Keep;
  low = λ i lt. get_or-replicate 128 i Keep Keep (omega (arith, lt)) ∙ sym (repair_of_one content fs (i + 1) (omega (arith, lt)));
}

pub found_more : (content : ℕ → List ℕ) (fs : ℕ) (each : List Repair) (at : ℕ) (repair : Repair) → AreFound content fs each at → at < 128 → repair ≡ repair_in content fs (at + 1) → AreFound content fs (set each at repair) (at + 1)
found_more content fs each at repair x less is = record {
  long = length-set each at repair ∙ x.long;
  low = λ i lt. elim (cases_eq i at) [
    | inl e ↦
        ap (λ k. get_or (set each at repair) k Keep) e ∙ (get_or-set_same each at repair Keep (omega (arith, x.long, less)) ∙ (is ∙ ap (λ k. repair_in content fs (k + 1)) (sym e)))
    | inr ne ↦ get_or-set_other each at i repair Keep ne ∙ x.low i (omega (arith, lt, ne))
  ];
}

pub all_found : (content : ℕ → List ℕ) (fs : ℕ) (each : List Repair) (at : ℕ) → at ≡ 128 → AreFound content fs each at → (n : ℕ) → repair_at each n ≡ repair_in content fs n
all_found content fs each at all x n = elim (cases_eq n 0) [
  | inl e ↦
      ap (λ (t : Bool). if t then Keep else slice_index_or each (n - 1) Keep) (eq-eqb n 0 e)
      ∙ sym (unnumbered_repair content fs n (inl e))
  | inr some ↦
      ap (λ (t : Bool). if t then Keep else slice_index_or each (n - 1) Keep) (ne_eqb n 0 some)
      ∙ elim (cases_lt 128 n) [
        | inl high ↦
            get_or_past each (n - 1) Keep (omega (arith, x.long, high))
            ∙ sym (unnumbered_repair content fs n (inr (some, high)))
        | inr low ↦ x.low (n - 1) (omega (arith, some, low, all)) ∙ ap (repair_in content fs) (omega (arith, some))
      ]
]

-- What a repair tells of its inode

pub record IsUnnamed (content : ℕ → List ℕ) (fs n : ℕ) : Type 0 where
  pub inode : List ℕ
  pub found : Ok inode ≡ inode_in content fs n
  pub none : names_count content fs n ≡ 0

pub record HasSpareLinks (content : ℕ → List ℕ) (fs n links : ℕ) : Type 0 where
  pub inode : List ℕ
  pub found : Ok inode ≡ inode_in content fs n
  pub names : names_count content fs n ≡ links
  pub fewer : links < inode_links inode

keep_or_give : (bare : Bool) (links : ℕ) → ◌≡◌ {A = Repair} (if bare then GiveUp else Keep) (SetLinks links) → ⊥
keep_or_give true links e = cc
keep_or_give false links e = cc

module _ (content : ℕ → List ℕ) (fs n : ℕ) where
  found_here : (repair : Repair) → repair ≢ Keep → repair_in content fs n ≡ repair → (inode : List ℕ) × (Ok inode ≡ inode_in content fs n) × (repair_of content (names_count content fs n) inode ≡ repair)
  found_here repair some e = elim (cases_eq n 1) [
    | inl one ↦ absurd (some (sym e ∙ repair_of_one content fs n one))
    | inr ne ↦ go (inode_in content fs n) refl (sym (repair_of_other content fs n ne) ∙ e)
  ]
    where
      go : (r : Result (List ℕ) FfsFault) → inode_in content fs n ≡ r → repair_found content (names_count content fs n) (inode_in content fs n) ≡ repair →
          (inode : List ℕ) × (Ok inode ≡ inode_in content fs n) × (repair_of content (names_count content fs n) inode ≡ repair)
      go (Err fault) f x = absurd (some (sym x ∙ ap (repair_found content (names_count content fs n)) f))
      go (Ok inode) f x = (inode, sym f, sym (ap (repair_found content (names_count content fs n)) f) ∙ x)

  pub given_up : repair_in content fs n ≡ GiveUp → IsUnnamed content fs n
  given_up e =
      let r = found_here GiveUp (λ z. cc) e in
      let count = names_count content fs n in
      elim (cases_eq count 0) [
        | inl none ↦ record { inode = r.0; found = r.1; none = none }
        | inr named ↦ elim (cases_lt count (inode_links r.0)) [
          | inl less ↦ absurd (set_give (few_repair content r.0 count named less ∙ r.2))
          | inr ge ↦ absurd (keep_give (enough_repair content r.0 count named ge ∙ r.2))
        ]
      ]
    where
      set_give : SetLinks (names_count content fs n) ≡ GiveUp → ⊥
      set_give z = cc

      keep_give : Keep ≡ GiveUp → ⊥
      keep_give z = cc

  pub links_set : (links : ℕ) → repair_in content fs n ≡ SetLinks links → HasSpareLinks content fs n links
  links_set links e =
      let r = found_here (SetLinks links) (λ z. cc) e in
      let count = names_count content fs n in
      elim (cases_eq count 0) [
        | inl none ↦ absurd (keep_or_give (is_bare_in content r.0) links (unnamed_repair content r.0 count none (is_bare_in content r.0) refl ∙ r.2))
        | inr named ↦ elim (cases_lt count (inode_links r.0)) [
          | inl less ↦
              let same = same_links (few_repair content r.0 count named less ∙ r.2) in
              record { inode = r.0; found = r.1; names = same; fewer = omega (arith, less, same) }
          | inr ge ↦ absurd (keep_set (enough_repair content r.0 count named ge ∙ r.2))
        ]
      ]
    where
      same_links : SetLinks (names_count content fs n) ≡ SetLinks links → names_count content fs n ≡ links
      same_links z = cc

      keep_set : Keep ≡ SetLinks links → ⊥
      keep_set z = cc
