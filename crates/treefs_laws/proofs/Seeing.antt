-- The files with their newest times, once one of them changes or is touched.
use Rattle.std.proofs.Common.{◌≡◌, ◌≢◌, ℕ, List, Option, None, Some, Result, Ok, refl, sym, ◌∙◌, ap, inl, inr, if◌then◌else◌}
use Rattle.std.specs.Prelude.{option_map}
use Rattle.std.specs.Option.{ok_or}
use Rattle.std.proofs.lemmas.Bool.{cases_eq, eq-eqb, ne_eqb}
use Rattle.treefs_format.specs.Names.{is_name}
use Rattle.treefs_model.specs.Files.{Files, Inode, and_then, changed_at, changed_in, found, linked_names, number_in, renamed_in, when, with_name}
use Rattle.treefs_model.specs.declared.fault.Fault.{Fault}
use Rattle.treefs_model.specs.declared.fault.Fault.TheVariants.{BadName, NoEntry}
use Rattle.treefs_edits.specs.Memories.{touched_times, with_touched}
use Rattle.treefs_edits.specs.declared.memory.Touched.{Touched}
use Rattle.treefs_edits.specs.declared.times.Times.{Times}
use Rattle.treefs_laws.specs.Seen.{seen_files, seen_inode, with_times}
use Rattle.treefs_laws.proofs.Touching.{others_touched, touched_now}

-- Where one inode changes

module _ (one other : List Touched) (files : Files) (n : ℕ) (f g : Inode → Inode)
    (apart : (m : ℕ) (times : Times) → m ≢ n → touched_times other m times ≡ touched_times one m times)
    (same : (inode : Inode) → files n ≡ Some inode → seen_inode other n (f inode) ≡ g (seen_inode one n inode)) where
  unseen : (m : ℕ) → m ≢ n → (inode : Inode) → seen_inode other m inode ≡ seen_inode one m inode
  unseen m ne inode = ap (λ (t : Times). record inode { mtime = t.mtime; ctime = t.ctime }) (apart m (record { mtime = inode.mtime; ctime = inode.ctime }) ne)

  own : (o : Option Inode) → files n ≡ o → option_map (seen_inode other n) (changed_in f o) ≡ changed_in g (option_map (seen_inode one n) o)
  own None is = refl
  own (Some inode) is = ap Some (same inode is)

  others : (m : ℕ) → m ≢ n → (o : Option Inode) → option_map (seen_inode other m) o ≡ option_map (seen_inode one m) o
  others m ne None = refl
  others m ne (Some inode) = ap Some (unseen m ne inode)

  at : (m : ℕ) → seen_files other (changed_at files n f) m ≡ changed_at (seen_files one files) n g m
  unfolding seen_files
  at m = elim (cases_eq m n) [
    | inl is ↦
        ap (λ t. option_map (seen_inode other m) (if t then changed_in f (files n) else files m)) (eq-eqb m n is)
        ∙ (ap (λ k. option_map (seen_inode other k) (changed_in f (files n))) is
        ∙ (own (files n) refl ∙ sym (ap (λ t. if t then changed_in g (option_map (seen_inode one n) (files n)) else option_map (seen_inode one m) (files m)) (eq-eqb m n is))))
    | inr ne ↦
        ap (λ t. option_map (seen_inode other m) (if t then changed_in f (files n) else files m)) (ne_eqb m n ne)
        ∙ (others m ne (files m)
        ∙ sym (ap (λ t. if t then changed_in g (option_map (seen_inode one n) (files n)) else option_map (seen_inode one m) (files m)) (ne_eqb m n ne)))
  ]

  pub seen_changed : seen_files other (changed_at files n f) ≡ changed_at (seen_files one files) n g
  seen_changed = λ j m. at m j

-- Names

module _ (touched : List Touched) (files : Files) where
  pub seen_named : (d : ℕ) (name : List ℕ) (number : Option ℕ) → seen_files touched (with_name files d name number) ≡ with_name (seen_files touched files) d name number
  seen_named d name number = seen_changed touched touched files d (renamed_in name number) (renamed_in name number) (λ m times ne. refl) (λ inode is. refl)

  abbrev named_by : Option Inode → List ℕ → Result ℕ Fault
  named_by o name = and_then (and_then (and_then (ok_or o NoEntry) linked_names) (λ names. when (is_name name) names BadName)) (λ names. ok_or (names name) NoEntry)

  pub number_seen : (d : ℕ) (name : List ℕ) → number_in (seen_files touched files) d name ≡ number_in files d name
  unfolding seen_files
  number_seen d name = by (files d)
    where
      by : (o : Option Inode) → named_by (option_map (seen_inode touched d) o) name ≡ named_by o name
      by None = refl
      by (Some inode) = refl

  pub found_seen : (n : ℕ) (inode : Inode) → found files n ≡ Ok inode → found (seen_files touched files) n ≡ Ok (seen_inode touched n inode)
  unfolding seen_files
  found_seen n inode is = by (files n) is
    where
      by : (o : Option Inode) → ok_or o NoEntry ≡ Ok inode → ok_or (option_map (seen_inode touched n) o) NoEntry ≡ Ok (seen_inode touched n inode)
      by None e = absurd (cc e)
      by (Some x) e = ap (λ r. and_then r (λ (x : Inode). Ok (seen_inode touched n x))) e

-- An inode that is touched

module _ (one : List Touched) (files : Files) (d : ℕ) (times : Times) where
  pub unchanged : (n : ℕ) → changed_at files d (λ inode. inode) n ≡ files n
  unchanged n = elim (cases_eq n d) [
    | inl is ↦ ap (λ t. if t then changed_in (λ inode. inode) (files d) else files n) (eq-eqb n d is) ∙ (same (files d) ∙ ap files (sym is))
    | inr ne ↦ ap (λ t. if t then changed_in (λ inode. inode) (files d) else files n) (ne_eqb n d ne)
  ]
    where
      same : (o : Option Inode) → changed_in (λ inode. inode) o ≡ o
      same None = refl
      same (Some inode) = refl

  pub seen_touched : seen_files (with_touched one d times) files ≡ changed_at (seen_files one files) d (with_times times)
  seen_touched =
      ap (seen_files (with_touched one d times)) (λ j n. sym (unchanged n) j)
      ∙ seen_changed one (with_touched one d times) files d (λ inode. inode) (with_times times)
      (λ m t ne. others_touched d times t m ne one)
      (λ inode is. ap (λ (t : Times). record inode { mtime = t.mtime; ctime = t.ctime }) (touched_now d times (record { mtime = inode.mtime; ctime = inode.ctime }) one))
