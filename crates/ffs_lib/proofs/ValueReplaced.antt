-- What `replace` looks up is what its function of the files does, and so is what it leaves.
use Rattle.std.proofs.Common.{◌≡◌, ◌≢◌, ℕ, ◌<◌, ◌≤◌, ◌⊎◌, Bool, true, false, List, Some, None, Ok, Err, refl, sym, ◌∙◌, ap, inl, inr, arith, eq-eqb, Result, not, ◌==◌, ◌&&◌, if◌then◌else◌, ok_or, ne_eqb}
use Rattle.ffs_lib.proofs.Common.{AreBlocksOnce, BadName, FfsFault, NoEntry, Slot, TooLarge, and_then, blocks_value, cases_eq, direct_in, directory_in, file_in}
use Rattle.ffs_lib.proofs.Common.{files_of, first_named, inode_in, inode_links, is_at, is_name, mapped}
use Rattle.ffs_lookup.specs.Files.{Answer, Blocks, Directory, Files, both_directories, cleared, directories, file_of, in_use, is_same, links_of, look_up, replaced, replaced_in, fault_told, turned, with_entry, without_link}
use Rattle.ffs_lookup.proofs.ForCallers.{EntryAt, both_found, both_parts, file_found, file_parts, if_both, named_told, same_ok}
use Rattle.ffs_lib.specs.Replacing.{Turned, directories_in, files_in, is_full_for, replace_in}
use Rattle.ffs_lib.specs.Stages.{Stages, over_stages, replaced_stages, stages_of, with_link}
use Rattle.ffs_lib.specs.Steps.{AddsLink, Clearing, TakesLink, Unnamed}
use Rattle.ffs_lib.proofs.Replaced.{is_moved, listing1, there1, there2}
use Rattle.ffs_lib.proofs.Replacing.{CanReplace}
use Rattle.ffs_lib.proofs.ValueLists.{there_in}
use Rattle.ffs_lib.proofs.ValueMade.{directory_value}
use Rattle.ffs_lib.proofs.ValueSteps.{adds_value, clearing_value, entry_after_link, inode_linked, link_and_less, links_of_entry, stands_listed, takes_value, turned_value}
use Rattle.ffs_lib.proofs.Writing.{file_from}

module _ (u : ℕ → List ℕ) (fs d : ℕ) (name : List ℕ) (other : ℕ) (other_name : List ℕ) where
  abbrev files : Files
  files = files_of u fs

  abbrev Found : Type 0
  Found = (ℕ × ℕ) × ℕ

  -- Look-ups

  abbrev pub by_tests : Found → Found → Bool → Bool → Bool → Answer (Unit {0})
  by_tests f g full same one =
      if full then Err TooLarge else if same then Ok (tt, files) else if one then Ok (tt, cleared files d f) else Ok (tt, turned files d name f other other_name g)

  abbrev found_former : Found → Found → ℕ × List ℕ → Answer (Unit {0})
  found_former f g former = replaced_in files d name f other other_name g

  abbrev found_file : Found → Found → ℕ × List ℕ → Answer (Unit {0})
  found_file f g file = and_then (file_of (files g.1)) (found_former f g)

  abbrev found_both : Found → Found → Answer (Unit {0})
  found_both f g = and_then (file_of (files f.1)) (found_file f g)

  abbrev found_first : (ℕ × Blocks) × (ℕ × Blocks) → Found → Answer (Unit {0})
  found_first both f = and_then (ok_or (look_up other_name both.1.1) NoEntry) (found_both f)

  abbrev found_directories : (ℕ × Blocks) × (ℕ × Blocks) → Answer (Unit {0})
  found_directories both = and_then (ok_or (look_up name both.0.1) NoEntry) (found_first both)

  abbrev unless_full : Slot → Slot → Bool → Result (Slot × Slot) FfsFault
  unless_full from to full = if full then Err TooLarge else Ok (from, to)

  files_told : (from to : Slot) (a b : ℕ × ℕ) → fault_told (files_in u fs from to) ≡ fault_told (found_both (a, from.inode) (b, to.inode))
  unfolding files_in
  files_told from to a b = first (file_in u fs from.inode) refl (file_found u fs from.inode)
    where
      tests : (full same one : Bool) → fault_told (unless_full from to full) ≡ fault_told (by_tests (a, from.inode) (b, to.inode) full same one)
      tests true same one = refl
      tests false true one = refl
      tests false false true = refl
      tests false false false = refl

      second : (inode : List ℕ) → Ok inode ≡ file_in u fs from.inode → (r : Result (List ℕ) FfsFault) → mapped (file_parts u) r ≡ file_of (files to.inode) →
          fault_told (and_then r (λ x. unless_full from to (is_full_for from to inode))) ≡ fault_told (and_then (file_of (files to.inode)) (found_former (a, from.inode) (b, to.inode)))
      second inode is (Err fault) h = ap (λ x. fault_told (and_then x (found_former (a, from.inode) (b, to.inode)))) h
      second inode is (Ok former) h =
          ap (λ (l : ℕ). fault_told (unless_full from to (not (from.inode == to.inode) && (l == 65535)))) (sym (inode_linked u fs from.inode inode (file_from u fs from.inode inode is)))
          ∙ (tests (not (from.inode == to.inode) && (links_of (files from.inode) == 65535)) (is_same d (a, from.inode) other (b, to.inode)) (from.inode == to.inode) ∙ ap (λ x. fault_told (and_then x (found_former (a, from.inode) (b, to.inode)))) h)

      first : (r : Result (List ℕ) FfsFault) → r ≡ file_in u fs from.inode → mapped (file_parts u) r ≡ file_of (files from.inode) →
          fault_told (and_then r (λ inode. and_then (file_in u fs to.inode) (λ x. unless_full from to (is_full_for from to inode)))) ≡ fault_told (and_then (file_of (files from.inode)) (found_file (a, from.inode) (b, to.inode)))
      first (Err fault) s h = ap (λ x. fault_told (and_then x (found_file (a, from.inode) (b, to.inode)))) h
      first (Ok inode) s h = second inode s (file_in u fs to.inode) (file_found u fs to.inode) ∙ ap (λ x. fault_told (and_then x (found_file (a, from.inode) (b, to.inode)))) h

  pub replaced_told : fault_told (replace_in u fs d name other other_name) ≡ fault_told (replaced files d name other other_name)
  unfolding replace_in directories_in
  replaced_told = go (and_then (inode_in u fs d) (λ from. and_then (inode_in u fs other) (if_both u fs d name other other_name from))) (both_found u fs d name other other_name)
    where
      go : (r : Result (List ℕ × List ℕ) FfsFault) → mapped (both_parts u) r ≡ both_directories files d name other other_name →
          fault_told (and_then r (λ p. and_then (ok_or (first_named u p.0 name) NoEntry) (λ from. and_then (ok_or (first_named u p.1 other_name) NoEntry) (files_in u fs from))))
          ≡ fault_told (and_then (both_directories files d name other other_name) found_directories)
      go (Err fault) h = ap (λ x. fault_told (and_then x found_directories)) h
      go (Ok p) h =
          named_told u p.0 name (λ from. and_then (ok_or (first_named u p.1 other_name) NoEntry) (files_in u fs from)) (found_first (both_parts u p))
          (λ from k. named_told u p.1 other_name (files_in u fs from) (found_both (k.at, from.inode)) (λ to l. files_told from to k.at l.at))
          ∙ ap (λ x. fault_told (and_then x found_directories)) h

  -- What it comes to where they pass
  module _ (from to : Slot) (x : CanReplace u fs d name other other_name from to) (k : EntryAt u x.home name from) (l : EntryAt u x.target other_name to) where
    abbrev f : Found
    f = (k.at, from.inode)

    abbrev g : Found
    g = (l.at, to.inode)

    not_full : not (from.inode == to.inode) && (links_of (files from.inode) == 65535) ≡ false
    not_full = elim (cases_eq from.inode to.inode) [
      | inl e ↦ ap (λ t. not t && (links_of (files from.inode) == 65535)) (eq-eqb from.inode to.inode e)
      | inr ne ↦
          ap (λ t. not t && (links_of (files from.inode) == 65535)) (ne_eqb from.inode to.inode ne)
          ∙ (ap (λ n. n == 65535) (inode_linked u fs from.inode x.own (file_from u fs from.inode x.own x.is_own)) ∙ ne_eqb (inode_links x.own) 65535 (x.few ne))
    ]

    abbrev if_names : (ℕ × Blocks) × (ℕ × Blocks) → Result ((ℕ × Blocks) × (ℕ × Blocks)) FfsFault
    if_names found = if is_name name && is_name other_name then Ok found else Err BadName

    pub replaced_ok : replaced files d name other other_name ≡ by_tests f g false (is_same d f other g) (from.inode == to.inode)
    replaced_ok =
        ap (λ v. and_then (and_then (in_use v) (λ a. and_then (in_use (files other)) (λ b. and_then (directories a b) if_names))) found_directories) (directory_value u fs d x.home x.is_home)
        ∙ (ap (λ v. and_then (and_then (in_use v) (λ b. and_then (directories (Directory (inode_links x.home) (blocks_value u x.home)) b) if_names)) found_directories) (directory_value u fs other x.target x.is_target)
        ∙ (ap (λ t. and_then (if t && is_name other_name then Ok (both_parts u (x.home, x.target)) else Err BadName) found_directories) x.good
        ∙ (ap (λ t. and_then (if t then Ok (both_parts u (x.home, x.target)) else Err BadName) found_directories) x.other_good
        ∙ (ap (λ o. and_then (ok_or o NoEntry) (found_first (both_parts u (x.home, x.target)))) k.looked
        ∙ (ap (λ o. and_then (ok_or o NoEntry) (found_both f)) l.looked
        ∙ (ap (λ r. and_then r (found_file f g)) (sym (ap (mapped (file_parts u)) x.is_own ∙ file_found u fs from.inode))
        ∙ (ap (λ r. and_then r (found_former f g)) (sym (ap (mapped (file_parts u)) x.is_former ∙ file_found u fs to.inode))
        ∙ ap (λ t. by_tests f g t (is_same d f other g) (from.inode == to.inode)) not_full)))))))

    pub replaced_stages_ok : replaced_stages files d name other other_name ≡ over_stages files d f other other_name g
    replaced_stages_ok =
        let K : (ℕ × Blocks) × (ℕ × Blocks) → Stages =
        λ both. stages_of (ok_or (look_up name both.0.1) NoEntry) (λ a. stages_of (ok_or (look_up other_name both.1.1) NoEntry) (over_stages files d a other other_name)) in
        ap (λ v. stages_of (and_then (in_use v) (λ a. and_then (in_use (files other)) (λ b. and_then (directories a b) if_names))) K) (directory_value u fs d x.home x.is_home)
        ∙ (ap (λ v. stages_of (and_then (in_use v) (λ b. and_then (directories (Directory (inode_links x.home) (blocks_value u x.home)) b) if_names)) K) (directory_value u fs other x.target x.is_target)
        ∙ (ap (λ t. stages_of (if t && is_name other_name then Ok (both_parts u (x.home, x.target)) else Err BadName) K) x.good
        ∙ (ap (λ t. stages_of (if t then Ok (both_parts u (x.home, x.target)) else Err BadName) K) x.other_good
        ∙ (ap (λ o. stages_of (ok_or o NoEntry) (λ a. stages_of (ok_or (look_up other_name (blocks_value u x.target)) NoEntry) (over_stages files d a other other_name))) k.looked
        ∙ ap (λ o. stages_of (ok_or o NoEntry) (over_stages files d f other other_name)) l.looked))))

    -- two entries stand at one place in the value where they do in the bytes
    module _ (once : AreBlocksOnce u fs) (apart : (e : ℕ) (a b : List ℕ) (i j : ℕ) → Ok a ≡ directory_in u fs d → Ok b ≡ directory_in u fs e → i < 12 → j < 12 → direct_in a i ≢ 0 → direct_in a i ≡ direct_in b j → d ≡ e) where
      pub same_is : (from.block == to.block) && (from.place == to.place) ≡ is_same d f other g
      same_is = elim (cases_eq d other) [
        | inl e ↦
            let one : x.home ≡ x.target = same_ok x.home x.target (x.is_home ∙ (ap (directory_in u fs) e ∙ sym x.is_target)) in
            let here : direct_in x.home l.at.0 ≡ to.block = ap (λ (i : List ℕ). direct_in i l.at.0) one ∙ l.is.block in
            ap (λ t. t && (from.place == to.place)) (index e here (cases_eq from.block to.block))
            ∙ (ap (λ p. (k.at.0 == l.at.0) && (p == to.place)) (sym k.is.place)
            ∙ (ap (λ p. (k.at.0 == l.at.0) && (k.at.1 == p)) (sym l.is.place) ∙ ap (λ t. t && ((k.at.0 == l.at.0) && (k.at.1 == l.at.1))) (sym (eq-eqb d other e))))
        | inr ne ↦
            ap (λ t. t && (from.place == to.place)) (ne_eqb from.block to.block (λ z. ne (apart other x.home x.target k.at.0 l.at.0 x.is_home x.is_target k.is.low l.is.low there (k.is.block ∙ (z ∙ sym l.is.block)))))
            ∙ ap (λ t. t && ((k.at.0 == l.at.0) && (k.at.1 == l.at.1))) (sym (ne_eqb d other ne))
      ]
        where
          there : direct_in x.home k.at.0 ≢ 0
          there z = k.is.there (sym k.is.block ∙ z)

          index : d ≡ other → direct_in x.home l.at.0 ≡ to.block → (from.block ≡ to.block) ⊎ (from.block ≢ to.block) → (from.block == to.block) ≡ (k.at.0 == l.at.0)
          index e here (inl z) =
              let i : k.at.0 ≡ l.at.0 = once d x.home x.is_home k.at.0 l.at.0 k.is.low l.is.low there (k.is.block ∙ (z ∙ sym here)) in
              eq-eqb from.block to.block z ∙ sym (eq-eqb k.at.0 l.at.0 i)
          index e here (inr z) = ne_eqb from.block to.block z ∙ sym (ne_eqb k.at.0 l.at.0 (λ i. z (sym k.is.block ∙ (ap (direct_in x.home) i ∙ here))))

    -- What its edits leave
    module _ (once : AreBlocksOnce u fs) (ne : from.inode ≢ to.inode) (v1 : ℕ → List ℕ) (a : AddsLink u v1 fs from.inode) where
      abbrev n : ℕ
      n = from.inode

      own : Ok x.own ≡ inode_in u fs n
      own = is_moved u fs d name other other_name from to x ne

      abbrev pub named : Files
      named = with_entry (with_link files n) other l.at (Some (other_name, n))

      abbrev pub left : Files
      left = with_entry named d k.at None

      pub linked_then : files_of v1 fs ≡ with_link files n
      linked_then = adds_value u v1 fs n x.own own a

      module _ (v2 : ℕ → List ℕ) (t : Turned v1 v2 fs to n) (places : is_at to from ≡ false) where
        pub named_then : files_of v2 fs ≡ named
        named_then =
            let target1 = there1 u fs d name other other_name from to x ne v1 a other x.target x.is_target in
            let once_target = once other x.target x.is_target in
            let stood =
            ap (there_in to.block to.place) (listing1 u fs d name other other_name from to x ne v1 a other x.target x.is_target) ∙ stands_listed u v1 fs other x.target x.is_target once_target to l.at l.is (Some (other_name, to.inode)) l.stands in
            turned_value v1 v2 fs other x.target target1 once_target to l.at l.is other_name n stood t ∙ ap (λ (h : Files). with_entry h other l.at (Some (other_name, n))) linked_then

        pub left_then : (m : ℕ → List ℕ) → Clearing v2 m fs from → files_of m fs ≡ left
        left_then m c =
            let home2 = there2 u fs d name other other_name from to x ne v1 a v2 t places d x.home x.is_home in
            clearing_value v2 m fs d x.home home2 (once d x.home x.is_home) from k.at k.is c ∙ ap (λ (h : Files). with_entry h d k.at None) named_then

        module _ (v4 : ℕ → List ℕ) (c : Unnamed v2 v4 fs from) where
          pub moved_then : files_of v4 fs ≡ without_link left n
          moved_then =
              let s = a.before n x.own own in
              let mid : Ok s.after ≡ inode_in c.middle fs n = s.found ∙ (sym (t.inodes n) ∙ sym (c.cleared.inodes n)) in
              takes_value c.middle v4 fs n s.after mid c.took ∙ ap (λ (h : Files). without_link h n) (left_then c.middle c.cleared)

          abbrev there : Files
          there = with_entry (with_entry files other l.at (Some (other_name, n))) d k.at None

          pub replaced_files : 1 ≤ inode_links x.own → (w : ℕ → List ℕ) → Ok x.former ≡ inode_in v4 fs to.inode → TakesLink v4 w fs to.inode → files_of w fs ≡ turned files d name f other other_name g
          replaced_files linked w former b =
              let same : links_of (there n) ≡ inode_links x.own =
              links_of_entry (with_entry files other l.at (Some (other_name, n))) n d k.at None ∙ (links_of_entry files n other l.at (Some (other_name, n)) ∙ inode_linked u fs n x.own own) in
              let low : 1 ≤ links_of (there n) = omega (arith, same, linked) in
              let gone : left ≡ with_link there n = ap (λ (h : Files). with_entry h d k.at None) (entry_after_link files n other l.at (Some (other_name, n))) ∙ entry_after_link (with_entry files other l.at (Some (other_name, n))) n d k.at None in
              takes_value v4 w fs to.inode x.former former b
              ∙ ap (λ (h : Files). without_link h to.inode) (moved_then ∙ (ap (λ (h : Files). without_link h n) gone ∙ link_and_less there n low))
