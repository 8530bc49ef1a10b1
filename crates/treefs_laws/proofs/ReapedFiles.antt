-- Files without some orphans, one step after another, and as a session sees them.
use mathlib.Core.Path.{fun_ext}
use Rattle.std.proofs.Common.{◌≡◌, ◌≢◌, ◌⊎◌, ℕ, Bool, true, false, List, [], ◌∷◌, Option, None, Some, refl, sym, ◌∙◌, ap, inl, inr, subst, if◌then◌else◌}
use Rattle.std.specs.Prelude.{Contains, option_map, slice_index, ◌==◌}
use Rattle.std.proofs.lemmas.Bool.{cases_eq, eq-eqb, eqb-true, ne_eqb}
use Rattle.std.proofs.lemmas.Option.{same_Some}
use Rattle.xn_model.specs.Lists.{has_number}
use Rattle.xn_model.proofs.ForCallers.{Contains-cons, Contains-head, Contains-none, Contains-tail, has_number_at, has_number_from}
use Rattle.treefs_model.specs.Changes.{reaped}
use Rattle.treefs_model.specs.Files.{Content, Directory, File, Files, Inode, SymbolicLink}
use Rattle.treefs_edits.specs.Memories.{touched_times}
use Rattle.treefs_edits.specs.declared.memory.Touched.{Touched}
use Rattle.treefs_edits.specs.declared.times.Times.{Times}
use Rattle.treefs_laws.specs.Orphans.{IsLeftOf, IsOrphan, IsReaped, orphan_in, without_orphans}
use Rattle.treefs_laws.specs.Seen.{seen_files, seen_inode}

no_inode : (inode : Inode) → ◌≡◌ {A = Option Inode} None (Some inode) → ⊥
no_inode inode e = absurd (cc e)

pub whole_left : (content : Content) → IsLeftOf content content
whole_left (File bytes) = (refl, λ i. inl refl)
whole_left (SymbolicLink bytes) = (refl, λ i. inl refl)
whole_left (Directory parent names) = (refl, λ name. inl refl)

-- as before, or not there
pub same_or : {A : Type 0} (x y z none : A) → (y ≡ x) ⊎ (y ≡ none) → (z ≡ y) ⊎ (z ≡ none) → (z ≡ x) ⊎ (z ≡ none)
same_or x y z none (inl first) (inl second) = inl (second ∙ first)
same_or x y z none (inr first) (inl second) = inr (second ∙ first)
same_or x y z none first (inr second) = inr second

left_then : (a b c : Content) → IsLeftOf a b → IsLeftOf b c → IsLeftOf a c
left_then (File a) (File b) (File c) first
    second = (second.0 ∙ first.0, λ i. same_or (slice_index a i) (slice_index b i) (slice_index c i) 0 (first.1 i) (second.1 i))
left_then (SymbolicLink a) (SymbolicLink b) (SymbolicLink c) first second =
    (second.0 ∙ first.0, λ i. same_or (slice_index a i) (slice_index b i) (slice_index c i) 0 (first.1 i) (second.1 i))
left_then (Directory p a) (Directory q b) (Directory r c) first second =
    (second.0 ∙ first.0, λ name. same_or (a name) (b name) (c name) None (first.1 name) (second.1 name))
left_then (File a) (File b) (SymbolicLink c) first second = absurd second
left_then (File a) (File b) (Directory r c) first second = absurd second
left_then (SymbolicLink a) (SymbolicLink b) (File c) first second = absurd second
left_then (SymbolicLink a) (SymbolicLink b) (Directory r c) first second = absurd second
left_then (Directory p a) (Directory q b) (File c) first second = absurd second
left_then (Directory p a) (Directory q b) (SymbolicLink c) first second = absurd second
left_then (File a) (SymbolicLink b) c first second = absurd first
left_then (File a) (Directory q b) c first second = absurd first
left_then (SymbolicLink a) (File b) c first second = absurd first
left_then (SymbolicLink a) (Directory q b) c first second = absurd first
left_then (Directory p a) (File b) c first second = absurd first
left_then (Directory p a) (SymbolicLink b) c first second = absurd first

module _ (Among : ℕ → Type 0) (tells : (n : ℕ) → Among n ⊎ (Among n → ⊥)) where
  -- whether an inode is an orphan is known
  pub is_orphan_or_not : (files : Files) (n : ℕ) → IsOrphan Among files n ⊎ (IsOrphan Among files n → ⊥)
  is_orphan_or_not files n = by (tells n) (files n) refl
    where
      linked : (inode : Inode) → files n ≡ Some inode → inode.links ≢ 0 → IsOrphan Among files n → ⊥
      linked inode is some orphan = some (ap (λ (i : Inode). i.links) (same_Some inode orphan.inode (sym is ∙ orphan.there)) ∙ orphan.unlinked)

      by : Among n ⊎ (Among n → ⊥) → (o : Option Inode) → files n ≡ o → IsOrphan Among files n ⊎ (IsOrphan Among files n → ⊥)
      by (inr not_among) o is = inr (λ orphan. not_among orphan.among)
      by (inl among) None is = inr (λ orphan. no_inode orphan.inode (sym is ∙ orphan.there))
      by (inl among) (Some inode) is = elim (cases_eq inode.links 0) [
        | inl z ↦ inl (record { among = among; inode = inode; there = is; unlinked = z })
        | inr some ↦ inr (linked inode is some)
      ]

  pub reaped_same : (files : Files) → IsReaped Among files files
  reaped_same files = record {
    others = λ n not_orphan. refl;
    left = λ n inode orphan is some. (inode.content, whole_left inode.content, is);
  }

  -- where one is as before, or gone, that was an orphan
  module _ (old new : Files) (reaped : IsReaped Among old new) where
    pub orphan_before : (n : ℕ) → IsOrphan Among new n → IsOrphan Among old n
    orphan_before n orphan = elim (is_orphan_or_not old n) [
      | inl was ↦ was
      | inr not_orphan ↦ record {
        among = orphan.among;
        inode = orphan.inode;
        there = sym (reaped.others n not_orphan) ∙ orphan.there;
        unlinked = orphan.unlinked;
      }
    ]

    pub orphan_then : (n : ℕ) → IsOrphan Among old n → new n ≢ None → IsOrphan Among new n
    orphan_then n orphan some =
        let l = reaped.left n orphan.inode orphan orphan.there some in
        record { among = orphan.among; inode = record orphan.inode { content = l.0 }; there = l.2; unlinked = orphan.unlinked }

    pub gone_stays : (n : ℕ) → old n ≡ None → new n ≡ None
    gone_stays n none = reaped.others n (λ orphan. no_inode orphan.inode (sym none ∙ orphan.there)) ∙ none

  pub reaped_then : (old middle new : Files) → IsReaped Among old middle → IsReaped Among middle new → IsReaped Among old new
  reaped_then old middle new first second = record {
    others = λ n not_orphan. second.others n (λ orphan. not_orphan (orphan_before old middle first n orphan)) ∙ first.others n not_orphan;
    left = λ n inode orphan is some.
        let between : middle n ≢ None = λ none. some (gone_stays middle new second n none) in
        let a = first.left n inode orphan is between in
        let b = second.left n (record inode { content = a.0 }) (orphan_then old middle first n orphan between) a.2 some in
        (b.0, left_then inode.content a.0 b.0 a.1 b.1, b.2);
  }

-- of more inodes
pub reaped_weaker : (Among : ℕ → Type 0) → ((n : ℕ) → Among n ⊎ (Among n → ⊥)) → (More : ℕ → Type 0) → ((n : ℕ) → Among n → More n) → (old new : Files) →
    IsReaped Among old new → IsReaped More old new
reaped_weaker Among tells More more old new is = record {
  others = λ n not_orphan. is.others n (λ orphan. not_orphan (record {
    among = more n orphan.among;
    inode = orphan.inode;
    there = orphan.there;
    unlinked = orphan.unlinked;
  }));
  left = λ n inode orphan there some. elim (is_orphan_or_not Among tells old n) [
    | inl among ↦ is.left n inode among there some
    | inr not_orphan ↦ (inode.content, whole_left inode.content, is.others n not_orphan ∙ there)
  ];
}

-- Without them

abbrev next : Files → ℕ → Files
next files n = if orphan_in (files n) then reaped files n else files

next_other : (files : Files) (n m : ℕ) → m ≢ n → next files n m ≡ files m
next_other files n m ne = by (orphan_in (files n))
  where
    by : (t : Bool) → (if t then reaped files n else files) m ≡ files m
    by true = ap (λ t. if t then None else files m) (ne_eqb m n ne)
    by false = refl

next_linked : (files : Files) (n m : ℕ) → orphan_in (files m) ≡ false → next files n m ≡ files m
next_linked files n m linked = elim (cases_eq m n) [
  | inl same ↦ ap (λ t. (if t then reaped files n else files) m) (ap (λ k. orphan_in (files k)) (sym same) ∙ linked)
  | inr ne ↦ next_other files n m ne
]

next_orphan : (files : Files) (n : ℕ) → orphan_in (files n) ≡ true → next files n n ≡ None
next_orphan files n orphan = ap (λ t. (if t then reaped files n else files) n) orphan ∙ ap (λ t. if t then None else files n) (eq-eqb n n refl)

pub without_linked : (numbers : List ℕ) (files : Files) (m : ℕ) → orphan_in (files m) ≡ false → without_orphans numbers files m ≡ files m
without_linked [] files m linked = refl
without_linked (n ∷ numbers) files m linked =
    let same = next_linked files n m linked in
    without_linked numbers (next files n) m (ap orphan_in same ∙ linked) ∙ same

pub without_others : (numbers : List ℕ) (files : Files) (m : ℕ) → (Contains numbers m → ⊥) → without_orphans numbers files m ≡ files m
without_others [] files m apart = refl
without_others (n ∷ numbers) files m apart =
    without_others numbers (next files n) m (λ has. apart (Contains-tail n numbers m has))
    ∙ next_other files n m (λ same. apart (subst (Contains (n ∷ numbers)) (sym same) (Contains-head n numbers)))

pub without_found : (numbers : List ℕ) (files : Files) (m : ℕ) → Contains numbers m → orphan_in (files m) ≡ true → without_orphans numbers files m ≡ None
without_found [] files m has orphan = absurd (Contains-none m has)
without_found (n ∷ numbers) files m has orphan = elim (cases_eq m n) [
  | inl same ↦
      let none : next files n m ≡ None = ap (next files n) same ∙ next_orphan files n (ap (λ k. orphan_in (files k)) (sym same) ∙ orphan) in
      without_linked numbers (next files n) m (ap orphan_in none) ∙ none
  | inr ne ↦
      let later : Contains numbers m = elim (Contains-cons n numbers m has) [ inl is ↦ absurd (ne (sym is)) | inr rest ↦ rest ] in
      without_found numbers (next files n) m later (ap orphan_in (next_other files n m ne) ∙ orphan)
]

pub among_or_not : (numbers : List ℕ) (n : ℕ) → Contains numbers n ⊎ (Contains numbers n → ⊥)
among_or_not numbers n = by (has_number numbers n) refl
  where
    by : (t : Bool) → has_number numbers n ≡ t → Contains numbers n ⊎ (Contains numbers n → ⊥)
    by true e = inl (has_number_at numbers n e)
    by false e = inr (λ has. absurd (cc (sym e ∙ has_number_from numbers n has)))

-- where some of them may be gone already
pub without_gone : (numbers : List ℕ) (old middle : Files) → IsReaped (Contains numbers) old middle → (n : ℕ) → IsOrphan (Contains numbers) old n →
    without_orphans numbers middle n ≡ None
without_gone numbers old middle reaped n orphan = by (middle n) refl
  where
    by : (o : Option Inode) → middle n ≡ o → without_orphans numbers middle n ≡ None
    by None is = without_linked numbers middle n (ap orphan_in is) ∙ is
    by (Some inode) is =
        let still = orphan_then (Contains numbers) (among_or_not numbers) old middle reaped n orphan (λ none. absurd (cc (sym is ∙ none))) in
        without_found numbers middle n orphan.among (ap orphan_in still.there ∙ eq-eqb still.inode.links 0 still.unlinked)

module _ (numbers : List ℕ) (old new : Files) (reaped : IsReaped (Contains numbers) old new) (all : (n : ℕ) → IsOrphan (Contains numbers) old n → new n ≡ None)
  where
    of : (n : ℕ) → (IsOrphan (Contains numbers) old n → ⊥) → (o : Option Inode) → old n ≡ o → without_orphans numbers old n ≡ old n
    of n not_orphan None is = without_linked numbers old n (ap orphan_in is)
    of n not_orphan (Some inode) is = by (inode.links == 0) refl (among_or_not numbers n)
      where
        by : (t : Bool) → (inode.links == 0) ≡ t → Contains numbers n ⊎ (Contains numbers n → ⊥) → without_orphans numbers old n ≡ old n
        by false e among = without_linked numbers old n (ap orphan_in is ∙ e)
        by true e (inr apart) = without_others numbers old n apart
        by true e (inl among) = absurd (not_orphan (record { among = among; inode = inode; there = is; unlinked = eqb-true inode.links 0 e }))

    pub reaped_without : new ≡ without_orphans numbers old
    reaped_without = fun_ext (λ n. elim (is_orphan_or_not (Contains numbers) (among_or_not numbers) old n) [
      | inl orphan ↦ all n orphan ∙ sym (without_found numbers old n orphan.among (ap orphan_in orphan.there ∙ eq-eqb orphan.inode.links 0 orphan.unlinked))
      | inr not_orphan ↦ reaped.others n not_orphan ∙ sym (of n not_orphan (old n) refl)
    ])

-- As a session sees them

module _ (Among : ℕ → Type 0) (touched : List Touched) (old : Files) where
  pub unseen_orphan : (n : ℕ) → IsOrphan Among (seen_files touched old) n → IsOrphan Among old n
  unfolding seen_files
  unseen_orphan n orphan = by (old n) refl
    where
      by : (o : Option Inode) → old n ≡ o → IsOrphan Among old n
      by None is = absurd (no_inode orphan.inode (sym (ap (option_map (seen_inode touched n)) is) ∙ orphan.there))
      by (Some inode) is =
          let seen : seen_inode touched n inode ≡ orphan.inode =
          same_Some (seen_inode touched n inode) orphan.inode (sym (ap (option_map (seen_inode touched n)) is) ∙ orphan.there) in
          record { among = orphan.among; inode = inode; there = is; unlinked = ap (λ (i : Inode). i.links) seen ∙ orphan.unlinked }

  pub seen_orphan : (n : ℕ) → IsOrphan Among old n → IsOrphan Among (seen_files touched old) n
  unfolding seen_files
  seen_orphan n orphan = record {
    among = orphan.among;
    inode = seen_inode touched n orphan.inode;
    there = ap (option_map (seen_inode touched n)) orphan.there;
    unlinked = orphan.unlinked;
  }

module _ (Among : ℕ → Type 0) (touched touched' : List Touched) (old new : Files)
    (same : (n : ℕ) → (new n ≡ None) ⊎ ((times : Times) → touched_times touched' n times ≡ touched_times touched n times)) where
  times_same : (n : ℕ) → new n ≢ None → (inode : Inode) → seen_inode touched' n inode ≡ seen_inode touched n inode
  times_same n some inode = elim (same n) [
    | inl none ↦ absurd (some none)
    | inr times ↦ ap (λ (t : Times). record inode { mtime = t.mtime; ctime = t.ctime }) (times (record { mtime = inode.mtime; ctime = inode.ctime }))
  ]

  module _ (is : IsReaped Among old new) where
    others_seen : (n : ℕ) → (IsOrphan Among (seen_files touched old) n → ⊥) → seen_files touched' new n ≡ seen_files touched old n
    unfolding seen_files
    others_seen n not_orphan =
        let unchanged : new n ≡ old n = is.others n (λ orphan. not_orphan (seen_orphan Among touched old n orphan)) in by (new n) refl unchanged
      where
        by : (o : Option Inode) → new n ≡ o → new n ≡ old n → option_map (seen_inode touched' n) (new n) ≡ option_map (seen_inode touched n) (old n)
        by None none unchanged = ap (option_map (seen_inode touched' n)) none ∙ ap (option_map (seen_inode touched n)) (sym none ∙ unchanged)
        by (Some inode) there unchanged =
            ap (option_map (seen_inode touched' n)) there
            ∙ (ap Some (times_same n (λ none. no_inode inode (sym none ∙ there)) inode) ∙ ap (option_map (seen_inode touched n)) (sym there ∙ unchanged))

    left_seen : (n : ℕ) (inode : Inode) → IsOrphan Among (seen_files touched old) n → seen_files touched old n ≡ Some inode → seen_files touched' new n ≢ None →
        (content : Content) × IsLeftOf inode.content content × (seen_files touched' new n ≡ Some (record inode { content = content }))
    unfolding seen_files
    left_seen n inode orphan there some =
        let was = unseen_orphan Among touched old n orphan in
        let seen : seen_inode touched n was.inode ≡ inode = same_Some (seen_inode touched n was.inode) inode
        (sym (ap (option_map (seen_inode touched n)) was.there) ∙ there) in
        let now_some : new n ≢ None = λ none. some (ap (option_map (seen_inode touched' n)) none) in
        let l = is.left n was.inode was was.there now_some in (
          l.0,
          subst (λ (i : Inode). IsLeftOf i.content l.0) seen l.1,
          ap (option_map (seen_inode touched' n)) l.2
              ∙ (ap Some (times_same n now_some (record was.inode { content = l.0 })) ∙ ap (λ (i : Inode). Some (record i { content = l.0 })) seen),
        )

    pub reaped_seen : IsReaped Among (seen_files touched old) (seen_files touched' new)
    reaped_seen = record { others = others_seen; left = left_seen }
