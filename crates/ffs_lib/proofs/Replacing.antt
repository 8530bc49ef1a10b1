-- What is looked up before an entry is replaced, in the order of the tests.
use Rattle.std.proofs.Common.{◌≡◌, ◌≢◌, ℕ, Bool, true, false, List, Option, Some, sym, ◌∙◌, ap, ne_eqb, IsTrue, Result, Ok, Err, ◌==◌, ◌&&◌, not, if◌then◌else◌, ok_or, eqb-true}
use Rattle.ffs_lib.proofs.Common.{BadName, FfsFault, NoEntry, NotDir, Slot, TooLarge, and_parts, and_then, directory_in, eqb-false, file_in, first_named}
use Rattle.ffs_lib.proofs.Common.{inode_in, inode_links, inode_mode, is_name}
use Rattle.ffs_lookup.proofs.ForCallers.{directory_is, in_directory, same_ok}
use Rattle.ffs_lib.specs.Replacing.{directories_in, entries_named, files_in, if_directories, is_full_for, replace_in}
use Rattle.ffs_lib.proofs.Owners.{not_first, passed, then_first}
use Rattle.ffs_lib.proofs.Renaming.{is_some_ok}

-- Both directories

module _ (content : ℕ → List ℕ) (fs d : ℕ) (name : List ℕ) (other : ℕ) (other_name : List ℕ) where
  pub no_home : (fault : FfsFault) → Err fault ≡ inode_in content fs d → Err fault ≡ directories_in content fs d name other other_name
  unfolding directories_in
  no_home fault e = ap (λ (r : Result (List ℕ) FfsFault). and_then r (λ from. and_then (inode_in content fs other) (if_directories name other_name from))) e

  module _ (from : List ℕ) (e : Ok from ≡ inode_in content fs d) where
    at_home : and_then (inode_in content fs other) (if_directories name other_name from) ≡ directories_in content fs d name other other_name
    unfolding directories_in
    at_home = ap (λ (r : Result (List ℕ) FfsFault). and_then r (λ x. and_then (inode_in content fs other) (if_directories name other_name x))) e

    pub no_target : (fault : FfsFault) → Err fault ≡ inode_in content fs other → Err fault ≡ directories_in content fs d name other other_name
    no_target fault f = ap (λ (r : Result (List ℕ) FfsFault). and_then r (if_directories name other_name from)) f ∙ at_home

    module _ (to : List ℕ) (f : Ok to ≡ inode_in content fs other) where
      at_both : if_directories name other_name from to ≡ directories_in content fs d name other other_name
      at_both = ap (λ (r : Result (List ℕ) FfsFault). and_then r (if_directories name other_name from)) f ∙ at_home

      abbrev by_names : Bool → Result (List ℕ × List ℕ) FfsFault
      by_names t = if t then Ok (from, to) else Err BadName

      pub one_is_file : (inode_mode from == 2) && (inode_mode to == 2) ≡ false → Err NotDir ≡ directories_in content fs d name other other_name
      one_is_file t = sym (ap (λ (x : Bool). if x then by_names (is_name name && is_name other_name) else Err NotDir) t) ∙ at_both

      module _ (dirs : (inode_mode from == 2) && (inode_mode to == 2) ≡ true) where
        at_dirs : by_names (is_name name && is_name other_name) ≡ directories_in content fs d name other other_name
        at_dirs = sym (ap (λ (x : Bool). if x then by_names (is_name name && is_name other_name) else Err NotDir) dirs) ∙ at_both

        pub one_is_no_name : is_name name && is_name other_name ≡ false → Err BadName ≡ directories_in content fs d name other other_name
        one_is_no_name t = sym (ap by_names t) ∙ at_dirs

        pub both_are_found : is_name name && is_name other_name ≡ true → Ok (from, to) ≡ directories_in content fs d name other other_name
        both_are_found t = sym (ap by_names t) ∙ at_dirs

-- Both files

module _ (content : ℕ → List ℕ) (fs : ℕ) (from to : Slot) where
  pub no_moved : (fault : FfsFault) → Err fault ≡ file_in content fs from.inode → Err fault ≡ files_in content fs from to
  unfolding files_in
  no_moved fault e = ap (λ (r : Result (List ℕ) FfsFault). and_then r (λ inode. and_then (file_in content fs to.inode) (λ other. if is_full_for from to inode then Err TooLarge else Ok (from, to)))) e

  module _ (inode : List ℕ) (e : Ok inode ≡ file_in content fs from.inode) where
    at_moved : and_then (file_in content fs to.inode) (λ other. if is_full_for from to inode then Err TooLarge else Ok (from, to)) ≡ files_in content fs from to
    unfolding files_in
    at_moved = ap (λ (r : Result (List ℕ) FfsFault). and_then r (λ x. and_then (file_in content fs to.inode) (λ other. if is_full_for from to x then Err TooLarge else Ok (from, to)))) e

    pub no_former : (fault : FfsFault) → Err fault ≡ file_in content fs to.inode → Err fault ≡ files_in content fs from to
    no_former fault f = ap (λ (r : Result (List ℕ) FfsFault). and_then r (λ other. if is_full_for from to inode then Err TooLarge else Ok (from, to))) f ∙ at_moved

    pub both_are_files : (former : List ℕ) → Ok former ≡ file_in content fs to.inode → (t : Bool) → is_full_for from to inode ≡ t → (if t then Err TooLarge else Ok (from, to)) ≡ files_in content fs from to
    both_are_files former f t e =
        sym (ap (λ (x : Bool). if x then Err TooLarge else Ok (from, to)) e)
        ∙ (ap (λ (r : Result (List ℕ) FfsFault). and_then r (λ other. if is_full_for from to inode then Err TooLarge else Ok (from, to))) f ∙ at_moved)

-- Both entries

module _ (content : ℕ → List ℕ) (fs d : ℕ) (name : List ℕ) (other : ℕ) (other_name : List ℕ) where
  abbrev all : Result (Slot × Slot) FfsFault
  all = replace_in content fs d name other other_name

  pub no_directories : (fault : FfsFault) → Err fault ≡ directories_in content fs d name other other_name → Err fault ≡ all
  unfolding replace_in
  no_directories fault e = ap (λ (r : Result (List ℕ × List ℕ) FfsFault). and_then r (entries_named content fs name other_name)) e

  module _ (home target : List ℕ) (e : Ok (home, target) ≡ directories_in content fs d name other other_name) where
    at_directories : entries_named content fs name other_name (home, target) ≡ all
    unfolding replace_in
    at_directories = ap (λ (r : Result (List ℕ × List ℕ) FfsFault). and_then r (entries_named content fs name other_name)) e

    abbrev second_of : Slot → Result (Slot × Slot) FfsFault
    second_of from = and_then (ok_or (first_named content target other_name) NoEntry) (files_in content fs from)

    -- where an entry was looked up by the first name
    module _ (o : Option Slot) (is : ◌≡◌ {A = Result (Option Slot) FfsFault} (Ok o) (Ok (first_named content home name))) where
      at_names : and_then (ok_or o NoEntry) second_of ≡ all
      at_names = ap (λ (x : Option Slot). and_then (ok_or x NoEntry) second_of) (same_ok o (first_named content home name) is) ∙ at_directories

      pub no_first_entry : (fault : FfsFault) → Err fault ≡ ok_or o NoEntry → Err fault ≡ all
      no_first_entry fault n = ap (λ (r : Result Slot FfsFault). and_then r second_of) n ∙ at_names

      -- and one by the other
      module _ (from : Slot) (first : Ok from ≡ ok_or o NoEntry) (o2 : Option Slot) (second : ◌≡◌ {A = Result (Option Slot) FfsFault} (Ok o2) (Ok (first_named content target other_name))) where
        at_first : and_then (ok_or o2 NoEntry) (files_in content fs from) ≡ all
        at_first =
            ap (λ (x : Option Slot). and_then (ok_or x NoEntry) (files_in content fs from)) (same_ok o2 (first_named content target other_name) second)
            ∙ (ap (λ (r : Result Slot FfsFault). and_then r second_of) first ∙ at_names)

        pub no_second_entry : (fault : FfsFault) → Err fault ≡ ok_or o2 NoEntry → Err fault ≡ all
        no_second_entry fault n = ap (λ (r : Result Slot FfsFault). and_then r (files_in content fs from)) n ∙ at_first

        pub both_are_named : (to : Slot) → Ok to ≡ ok_or o2 NoEntry → files_in content fs from to ≡ all
        both_are_named to n = ap (λ (r : Result Slot FfsFault). and_then r (files_in content fs from)) n ∙ at_first

-- What was found where all of it passed

pub record CanReplace (content : ℕ → List ℕ) (fs d : ℕ) (name : List ℕ) (other : ℕ) (other_name : List ℕ) (from to : Slot) : Type 0 where
  pub home : List ℕ
  pub is_home : Ok home ≡ directory_in content fs d
  pub target : List ℕ
  pub is_target : Ok target ≡ directory_in content fs other
  pub good : IsTrue (is_name name)
  pub other_good : IsTrue (is_name other_name)
  pub first : Some from ≡ first_named content home name
  pub second : Some to ≡ first_named content target other_name
  pub own : List ℕ
  pub is_own : Ok own ≡ file_in content fs from.inode
  pub former : List ℕ
  pub is_former : Ok former ≡ file_in content fs to.inode
  pub few : from.inode ≢ to.inode → inode_links own ≢ 65535

both_same : {A : Type 0} (p q : A × A) → ◌≡◌ {A = Result (A × A) FfsFault} (Ok p) (Ok q) → (p.0 ≡ q.0) × (p.1 ≡ q.1)
both_same {A} p q e = let f = same_ok p q e in (ap (λ (x : A × A). x.0) f, ap (λ (x : A × A). x.1) f)

not_full : (from to : Slot) (inode : List ℕ) → is_full_for from to inode ≡ false → from.inode ≢ to.inode → inode_links inode ≢ 65535
not_full from to inode e ne = go (from.inode == to.inode) (ne_eqb from.inode to.inode ne) e
  where
    go : (t : Bool) → t ≡ false → not t && (inode_links inode == 65535) ≡ false → inode_links inode ≢ 65535
    go true f g = absurd (cc f)
    go false f g = eqb-false (inode_links inode) 65535 g

files_from : (content : ℕ → List ℕ) (fs : ℕ) (from to a b : Slot) → Ok (a, b) ≡ files_in content fs from to →
    (from ≡ a) × (to ≡ b) × ((own : List ℕ) × (Ok own ≡ file_in content fs from.inode) × (from.inode ≢ to.inode → inode_links own ≢ 65535)) × ((former : List ℕ) × (Ok former ≡ file_in content fs to.inode))
unfolding files_in
files_from content fs from to a b e =
    let x = passed (file_in content fs from.inode) (λ inode. and_then (file_in content fs to.inode) (λ other. if is_full_for from to inode then Err TooLarge else Ok (from, to))) (a, b) e in
    let y = passed (file_in content fs to.inode) (λ other. if is_full_for from to x.0 then Err TooLarge else Ok (from, to)) (a, b) x.2 in
    let z = not_first (is_full_for from to x.0) TooLarge (Ok (from, to)) (a, b) y.2 in
    let p = both_same (a, b) (from, to) z.1 in
    (sym p.0, sym p.1, (x.0, x.1, not_full from to x.0 z.0), (y.0, y.1))

pub can_replace : (content : ℕ → List ℕ) (fs d : ℕ) (name : List ℕ) (other : ℕ) (other_name : List ℕ) (from to : Slot) → Ok (from, to) ≡ replace_in content fs d name other other_name → CanReplace content fs d name other other_name from to
unfolding replace_in directories_in
can_replace content fs d name other other_name from to e =
    let r = passed (directories_in content fs d name other other_name) (entries_named content fs name other_name) (from, to) e in
    let a = passed (inode_in content fs d) (λ x. and_then (inode_in content fs other) (if_directories name other_name x)) r.0 r.1 in
    let b = passed (inode_in content fs other) (if_directories name other_name a.0) r.0 a.2 in
    let c = then_first ((inode_mode a.0 == 2) && (inode_mode b.0 == 2)) (if is_name name && is_name other_name then Ok (a.0, b.0) else Err BadName) NotDir r.0 b.2 in
    let n = then_first (is_name name && is_name other_name) (Ok (a.0, b.0)) BadName r.0 c.1 in
    let pair = both_same r.0 (a.0, b.0) n.1 in
    let names = and_parts (is_name name) (is_name other_name) n.0 in
    let modes = and_parts (inode_mode a.0 == 2) (inode_mode b.0 == 2) c.0 in
    let o = passed (ok_or (first_named content r.0.0 name) NoEntry) (λ x. and_then (ok_or (first_named content r.0.1 other_name) NoEntry) (files_in content fs x)) (from, to) r.2 in
    let q = passed (ok_or (first_named content r.0.1 other_name) NoEntry) (files_in content fs o.0) (from, to) o.2 in
    let f = files_from content fs o.0 q.0 from to q.2 in
    record {
      home = r.0.0;
      is_home = ap (λ (i : List ℕ). Ok i) pair.0 ∙ (directory_is a.0 (eqb-true (inode_mode a.0) 2 modes.0) ∙ in_directory content fs d (Ok a.0) a.1);
      target = r.0.1;
      is_target = ap (λ (i : List ℕ). Ok i) pair.1 ∙ (directory_is b.0 (eqb-true (inode_mode b.0) 2 modes.1) ∙ in_directory content fs other (Ok b.0) b.1);
      good = names.0;
      other_good = names.1;
      first = ap (λ s. Some s) (sym f.0) ∙ is_some_ok (first_named content r.0.0 name) o.0 o.1;
      second = ap (λ s. Some s) (sym f.1) ∙ is_some_ok (first_named content r.0.1 other_name) q.0 q.1;
      own = f.2.0;
      is_own = f.2.1 ∙ ap (λ (s : Slot). file_in content fs s.inode) f.0;
      former = f.3.0;
      is_former = f.3.1 ∙ ap (λ (s : Slot). file_in content fs s.inode) f.1;
      few = λ ne. f.2.2 (λ z. ne (ap (λ (s : Slot). s.inode) (sym f.0) ∙ (z ∙ ap (λ (s : Slot). s.inode) f.1)));
    }
