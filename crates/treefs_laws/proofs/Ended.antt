-- The files with their newest times, once a name of a directory ended and its inode has a link fewer.
use Rattle.std.proofs.Common.{◌≡◌, ◌≢◌, ℕ, ℤ, ◌-◌, Bool, true, false, List, Option, None, Some, refl, sym, ◌∙◌, ap, inl, inr, arith, leb-true, if◌then◌else◌}
use Rattle.std.specs.Prelude.{nat_le}
use Rattle.std.proofs.lemmas.Bool.{cases_eq, eq-eqb, ne_eqb}
use Rattle.std.proofs.lemmas.Option.{same_Some}
use Rattle.treefs_model.specs.Changes.{less_links, marked, touched as touched_inode, without_name}
use Rattle.treefs_model.specs.Files.{Files, Inode, changed_at, changed_in, renamed_in, with_name}
use Rattle.treefs_edits.specs.Memories.{touched_times, with_touched}
use Rattle.treefs_edits.specs.declared.memory.Touched.{Touched}
use Rattle.treefs_edits.specs.declared.times.Times.{Times}
use Rattle.treefs_values.specs.Values.{inode_with_links}
use Rattle.treefs.specs.Remembered.{written_times}
use Rattle.treefs_laws.specs.Seen.{AreTouchedOnce, seen_files, seen_inode, times_in}
use Rattle.treefs_laws.proofs.Seeing.{seen_changed, seen_named, seen_touched}
use Rattle.treefs_laws.proofs.Touching.{others_written, written_now}

-- Each inode has its times in three ways at most, so this is said once for both numbers of links
module _ (touched : List Touched) (clock : ℤ) (n : ℕ) (once : AreTouchedOnce touched) (links : ℕ) (times : Times) where
  abbrev newest : Times
  newest = record { mtime = (touched_times touched n times).mtime; ctime = clock }

  abbrev pub times_by : Bool → Option Times
  times_by b = if b then None else Some (record { mtime = (touched_times touched n times).mtime; ctime = clock })

  abbrev pub left_by : Bool → List Touched
  left_by b = written_times touched n (times_by b)

  pub apart : (b : Bool) (m : ℕ) (t : Times) → m ≢ n → touched_times (left_by b) m t ≡ touched_times touched m t
  apart true m t ne = refl
  apart false m t ne = others_written n t t m ne touched

  module _ (x : Inode) (same_links : x.links ≡ links) (same_times : times_in x ≡ times) where
    abbrev seen : Inode
    seen = seen_inode touched n x

    pub fewer : (b : Bool) → nat_le links 1 ≡ b → seen_inode (left_by b) n (inode_with_links (links - 1) (times_by b) None x) ≡ less_links clock seen
    fewer true h =
        let low = leb-true links 1 h in let none : links - 1 ≡ 0 = omega arith in
        ap (λ k. record seen { links = k }) none
        ∙ sym (ap (λ b. if b then record seen { links = 0 } else record (marked clock seen) { links = seen.links - 1 }) (ap (λ k. nat_le k 1) same_links ∙ h))
    fewer false h =
        ap (λ (t : Times). record x { links = links - 1; mtime = t.mtime; ctime = t.ctime }) (written_now n newest newest touched once)
        ∙ (ap (λ (t : Times). record x { links = links - 1; mtime = (touched_times touched n t).mtime; ctime = clock }) (sym same_times)
        ∙ (ap (λ k. record x { links = k - 1; mtime = (touched_times touched n (times_in x)).mtime; ctime = clock }) (sym same_links)
        ∙ sym (ap (λ b. if b then record seen { links = 0 } else record (marked clock seen) { links = seen.links - 1 }) (ap (λ k. nat_le k 1) same_links ∙ h))))

module _ (touched : List Touched) (clock : ℤ) (once : AreTouchedOnce touched) (files : Files) (d n : ℕ) (name : List ℕ) (inode : Inode) (there : files n ≡ Some inode) where
  abbrev b : Bool
  b = nat_le inode.links 1

  abbrev without : Files
  without = with_name files d name None

  stays : (x : Inode) → without n ≡ Some x → (x.links ≡ inode.links) × (times_in x ≡ times_in inode)
  stays x is = elim (cases_eq n d) [
    | inl same ↦
        let e : renamed_in name None inode ≡ x =
        same_Some (renamed_in name None inode) x
        (sym (ap (λ t. if t then changed_in (renamed_in name None) (files d) else files n) (eq-eqb n d same)
        ∙ (ap (λ k. changed_in (renamed_in name None) (files k)) (sym same) ∙ ap (changed_in (renamed_in name None)) there)) ∙ is) in
        (ap (λ (i : Inode). i.links) (sym e), ap times_in (sym e))
    | inr ne ↦
        let e : inode ≡ x =
        same_Some inode x (sym (ap (λ t. if t then changed_in (renamed_in name None) (files d) else files n) (ne_eqb n d ne) ∙ there) ∙ is) in
        (ap (λ (i : Inode). i.links) (sym e), ap times_in (sym e))
  ]

  abbrev times : Option Times
  times = times_by touched clock n once inode.links (times_in inode) b

  abbrev left : List Touched
  left = written_times touched n times

  -- what the bytes say then, with the directory touched
  pub ended_seen : seen_files (with_touched left d (record { mtime = clock; ctime = clock })) (changed_at without n (inode_with_links (inode.links - 1) times None))
      ≡ without_name (seen_files touched files) clock d name n
  ended_seen =
      seen_touched left (changed_at without n (inode_with_links (inode.links - 1) times None)) d (record { mtime = clock; ctime = clock })
      ∙ ap (λ f. changed_at f d (touched_inode clock))
      (seen_changed touched left without n (inode_with_links (inode.links - 1) times None) (less_links clock)
      (λ m t ne. apart touched clock n once inode.links (times_in inode) b m t ne)
      (λ x is. fewer touched clock n once inode.links (times_in inode) x (stays x is).0 (stays x is).1 b refl)
      ∙ ap (λ f. changed_at f n (less_links clock)) (seen_named touched files d name None))
