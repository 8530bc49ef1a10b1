-- A name moves: what the files are then, with their newest times.
use Rattle.std.proofs.Common.{◌≡◌, ◌≢◌, ◌⊎◌, ℕ, ℤ, ◌+◌, ◌-◌, Bool, true, false, List, Option, None, Some, refl, sym, ◌∙◌, ap, inl, inr, if◌then◌else◌}
use Rattle.std.specs.Prelude.{bytes_eq, nat_le, option_map, ◌==◌}
use Rattle.std.proofs.lemmas.Bool.{cases_eq, eq-eqb, ne_eqb}
use Rattle.std.proofs.lemmas.Option.{same_Some}
use Rattle.treefs_model.specs.Changes.{less_links, marked, moved, moved_to}
use Rattle.treefs_model.specs.Files.{Content, Directory, File, Files, Inode, SymbolicLink, changed_at, changed_in, renamed_in, with_entry, with_name}
use Rattle.treefs_edits.specs.Memories.{touched_times, with_touched, without_touched}
use Rattle.treefs_edits.specs.declared.memory.Touched.{Touched}
use Rattle.treefs_edits.specs.declared.times.Times.{Times}
use Rattle.treefs_values.specs.Values.{inode_with_links}
use Rattle.treefs.specs.Remembered.{written_times}
use Rattle.treefs_values.proofs.ForCallers.{same_bytes}
use Rattle.treefs_laws.specs.Seen.{AreTouchedOnce, seen_files, seen_inode, times_in, with_times}
use Rattle.treefs_laws.proofs.Ended.{apart, fewer, left_by, times_by}
use Rattle.treefs_laws.proofs.Replaced.{swapped}
use Rattle.treefs_laws.proofs.Seeing.{seen_changed, seen_named, seen_touched}
use Rattle.treefs_laws.proofs.Touching.{others_written, written_now}

-- Changes of one inode, one after another

module _ (files : Files) (n : ℕ) where
  pub changed_same : (g h : Inode → Inode) → ((x : Inode) → files n ≡ Some x → g x ≡ h x) → changed_at files n g ≡ changed_at files n h
  changed_same g h same = λ j k. if k == n then by (files n) refl j else files k
    where
      by : (o : Option Inode) → files n ≡ o → changed_in g o ≡ changed_in h o
      by None is = refl
      by (Some x) is = ap Some (same x is)

  pub changed_other : (g : Inode → Inode) (k : ℕ) → k ≢ n → changed_at files n g k ≡ files k
  changed_other g k ne = ap (λ t. if t then changed_in g (files n) else files k) (ne_eqb k n ne)

  own : (g : Inode → Inode) → changed_at files n g n ≡ changed_in g (files n)
  own g = ap (λ t. if t then changed_in g (files n) else files n) (eq-eqb n n refl)

  pub changed_twice : (g h : Inode → Inode) → changed_at (changed_at files n g) n h ≡ changed_at files n (λ x. h (g x))
  changed_twice g h = λ j k. at k (cases_eq k n) j
    where
      both : (o : Option Inode) → changed_in h (changed_in g o) ≡ changed_in (λ x. h (g x)) o
      both None = refl
      both (Some x) = refl

      at : (k : ℕ) → (k ≡ n) ⊎ (k ≢ n) → changed_at (changed_at files n g) n h k ≡ changed_at files n (λ x. h (g x)) k
      at k (inl is) =
          ap (λ t. if t then changed_in h (changed_at files n g n) else changed_at files n g k) (eq-eqb k n is)
          ∙ (ap (changed_in h) (own g) ∙ (both (files n) ∙ sym (ap (λ t. if t then changed_in (λ x. h (g x)) (files n) else files k) (eq-eqb k n is))))
      at k (inr ne) =
          ap (λ t. if t then changed_in h (changed_at files n g n) else changed_at files n g k) (ne_eqb k n ne)
          ∙ (changed_other g k ne ∙ sym (ap (λ t. if t then changed_in (λ x. h (g x)) (files n) else files k) (ne_eqb k n ne)))

-- Two names of a directory are set, in either order
module _ (name new : List ℕ) (unlike : name ≢ new) (a b : Option ℕ) where
  entries_swapped : (content : Content) → with_entry name a (with_entry new b content) ≡ with_entry new b (with_entry name a content)
  entries_swapped (Directory parent names) = (λ j. Directory parent (λ x. at x (bytes_eq x name) refl (bytes_eq x new) refl j))
    where
      at : (x : List ℕ) (t : Bool) → bytes_eq x name ≡ t → (u : Bool) → bytes_eq x new ≡ u →
          (if bytes_eq x name then a else if bytes_eq x new then b else names x) ≡ (if bytes_eq x new then b else if bytes_eq x name then a else names x)
      at x true h true k = absurd (unlike (sym (same_bytes x name h) ∙ same_bytes x new k))
      at x true h false k = ap (λ t. if t then a else if bytes_eq x new then b else names x) h
          ∙ sym (ap (λ u. if u then b else if bytes_eq x name then a else names x) k ∙ ap (λ t. if t then a else names x) h)
      at x false h u k = ap (λ t. if t then a else if bytes_eq x new then b else names x) h ∙ sym (ap (λ t. if bytes_eq x new then b else if t then a else names x) h)
  entries_swapped (File bytes) = refl
  entries_swapped (SymbolicLink bytes) = refl

  renamed_swapped : (files : Files) (d : ℕ) → with_name (with_name files d new b) d name a ≡ with_name (with_name files d name a) d new b
  renamed_swapped files d =
      changed_twice files d (renamed_in new b) (renamed_in name a)
      ∙ (changed_same files d (λ x. renamed_in name a (renamed_in new b x)) (λ x. renamed_in new b (renamed_in name a x))
      (λ x is. ap (λ c. record x { content = c }) (entries_swapped x.content))
      ∙ sym (changed_twice files d (renamed_in name a) (renamed_in new b)))

module _ (touched : List Touched) (clock : ℤ) (once : AreTouchedOnce touched) (files : Files) (n d to : ℕ) (name new : List ℕ) (value : Inode) (there : files n ≡ Some value)
    (not_d : n ≢ d) (not_to : n ≢ to) where
  abbrev pub renamed_in_files : Files → Files
  renamed_in_files f = with_name (with_name f d name None) to new (Some n)

  abbrev seen : Files
  seen = seen_files touched files

  abbrev pub newest_of : Times
  newest_of = record { mtime = (touched_times touched n (times_in value)).mtime; ctime = clock }

  seen_renamed : seen_files touched (renamed_in_files files) ≡ renamed_in_files seen
  seen_renamed = seen_named touched (with_name files d name None) to new (Some n) ∙ ap (λ f. with_name f to new (Some n)) (seen_named touched files d name None)

  -- the inode is the same in all of them
  stays : (f : Files) → renamed_in_files f n ≡ f n
  stays f = changed_other (with_name f d name None) to (renamed_in new (Some n)) n not_to ∙ changed_other f d (renamed_in name None) n not_d

  value_is : (x : Inode) → renamed_in_files files n ≡ Some x → value ≡ x
  value_is x is = same_Some value x (sym there ∙ (sym (stays files) ∙ is))

  pub seen_value : seen_files touched files n ≡ Some (seen_inode touched n value)
  unfolding seen_files
  seen_value = ap (option_map (seen_inode touched n)) there

  -- by one edit: the inode is touched, and stands in the directory already

  pub together_seen : moved_to to value.content ≡ value.content →
      seen_files (with_touched touched n newest_of) (renamed_in_files files) ≡ changed_at (renamed_in_files seen) n (moved clock to)
  together_seen stands =
      seen_touched touched (renamed_in_files files) n newest_of
      ∙ (ap (λ f. changed_at f n (with_times newest_of)) seen_renamed
      ∙ changed_same (renamed_in_files seen) n (with_times newest_of) (moved clock to)
      (λ x is. let same : seen_inode touched n value ≡ x = same_Some (seen_inode touched n value) x (sym (seen_value) ∙ (sym (stays seen) ∙ is)) in
      ap (λ (y : Inode). with_times newest_of y) (sym same)
      ∙ (ap (λ c. record (marked clock (seen_inode touched n value)) { content = c }) (sym stands) ∙ ap (moved clock to) same)))

  -- by several: its times and its directory are written

  module _ (parent : Option ℕ) (links : ℕ) (same_links : value.links ≡ links) (named : (d ≡ to) → name ≢ new)
      (parent_is : moved_to to value.content ≡ (inode_with_links (links + 1) (Some newest_of) parent value).content) where
    abbrev pub more : Inode → Inode
    more = inode_with_links (links + 1) (Some newest_of) parent

    abbrev pub less : Inode → Inode
    less = inode_with_links links (Some newest_of) None

    in_order : with_name (with_name files to new (Some n)) d name None ≡ renamed_in_files files
    in_order = elim (cases_eq d to) [
      | inl same ↦ (λ j. with_name (with_name files (sym same j) new (Some n)) d name None)
          ∙ (renamed_swapped name new (named same) None (Some n) files d ∙ (λ j. with_name (with_name files d name None) (same j) new (Some n)))
      | inr ne ↦ swapped files to d (renamed_in new (Some n)) (renamed_in name None) (λ same. ne (sym same))
    ]

    files_are : changed_at (with_name (with_name (changed_at files n more) to new (Some n)) d name None) n less ≡ changed_at (renamed_in_files files) n (λ x. less (more x))
    files_are =
        ap (λ f. changed_at (with_name f d name None) n less) (swapped files n to more (renamed_in new (Some n)) not_to)
        ∙ (ap (λ f. changed_at f n less) (swapped (with_name files to new (Some n)) n d more (renamed_in name None) not_d)
        ∙ (changed_twice (with_name (with_name files to new (Some n)) d name None) n more less ∙ ap (λ f. changed_at f n (λ x. less (more x))) in_order))

    own_by : (parent : Option ℕ) → moved_to to value.content ≡ (inode_with_links (links + 1) (Some newest_of) parent value).content →
        with_times newest_of (less (inode_with_links (links + 1) (Some newest_of) parent value)) ≡ moved clock to (seen_inode touched n value)
    own_by None is =
        ap (λ k. record (marked clock (seen_inode touched n value)) { links = k; content = value.content }) (sym same_links)
        ∙ ap (λ c. record (marked clock (seen_inode touched n value)) { content = c }) (sym is)
    own_by (Some p) is =
        ap (λ k. record (marked clock (seen_inode touched n value)) { links = k; content = moved_to p value.content }) (sym same_links)
        ∙ ap (λ c. record (marked clock (seen_inode touched n value)) { content = c }) (sym is)

    own_seen : seen_inode (without_touched touched n) n (less (more value)) ≡ moved clock to (seen_inode touched n value)
    own_seen = by_parent parent parent_is
      where
        by_parent : (parent : Option ℕ) → moved_to to value.content ≡ (inode_with_links (links + 1) (Some newest_of) parent value).content →
            seen_inode (without_touched touched n) n (less (inode_with_links (links + 1) (Some newest_of) parent value)) ≡ moved clock to (seen_inode touched n value)
        by_parent None is = ap (λ (t : Times). with_times t (less (inode_with_links (links + 1) (Some newest_of) None value))) (written_now n newest_of newest_of touched once) ∙ own_by None is
        by_parent (Some p) is =
            ap (λ (t : Times). with_times t (less (inode_with_links (links + 1) (Some newest_of) (Some p) value))) (written_now n newest_of newest_of touched once) ∙ own_by (Some p) is

    pub apart_seen : seen_files (without_touched touched n) (changed_at (with_name (with_name (changed_at files n more) to new (Some n)) d name None) n less)
        ≡ changed_at (renamed_in_files seen) n (moved clock to)
    apart_seen =
        ap (seen_files (without_touched touched n)) files_are
        ∙ (seen_changed touched (without_touched touched n) (renamed_in_files files) n (λ x. less (more x)) (moved clock to) (λ k t ne. others_written n t t k ne touched)
        (λ x is. ap (λ (y : Inode). seen_inode (without_touched touched n) n (less (more y))) (sym (value_is x is))
        ∙ (own_seen ∙ ap (λ (y : Inode). moved clock to (seen_inode touched n y)) (value_is x is)))
        ∙ ap (λ f. changed_at f n (moved clock to)) seen_renamed)

-- What was replaced has a link fewer

module _ (touched left : List Touched) (clock : ℤ) (once : AreTouchedOnce left) (files now : Files) (m links : ℕ) (times : Times)
    (keeps : (x : Inode) → now m ≡ Some x → (x.links ≡ links) × (times_in x ≡ times)) (same : touched_times left m times ≡ touched_times touched m times) where
  abbrev pub times_then : Option Times
  times_then = if nat_le links 1 then None else Some (record { mtime = (touched_times touched m times).mtime; ctime = clock })

  by_left : times_by left clock m once links times (nat_le links 1) ≡ times_then
  by_left = ap (λ (t : Times). if nat_le links 1 then None else Some (record { mtime = t.mtime; ctime = clock })) same

  pub fewer_seen : seen_files (written_times left m times_then) (changed_at now m (inode_with_links (links - 1) times_then None)) ≡ changed_at (seen_files left now) m (less_links clock)
  fewer_seen =
      (λ j. seen_files (written_times left m (sym by_left j)) (changed_at now m (inode_with_links (links - 1) (sym by_left j) None)))
      ∙ seen_changed left (left_by left clock m once links times (nat_le links 1)) now m (inode_with_links (links - 1) (times_by left clock m once links times (nat_le links 1)) None) (less_links clock)
      (λ k t ne. apart left clock m once links times (nat_le links 1) k t ne)
      (λ x is. fewer left clock m once links times x (keeps x is).0 (keeps x is).1 (nat_le links 1) refl)

-- names change no links and no times
pub named_keeps : (files : Files) (d : ℕ) (name : List ℕ) (number : Option ℕ) (m : ℕ) (x : Inode) → with_name files d name number m ≡ Some x →
    (y : Inode) × (files m ≡ Some y) × (x.links ≡ y.links) × (times_in x ≡ times_in y)
named_keeps files d name number m x is = elim (cases_eq m d) [
  | inl same ↦ by (files d) refl (sym (ap (λ t. if t then changed_in (renamed_in name number) (files d) else files m) (eq-eqb m d same)) ∙ is) same
  | inr ne ↦ (x, sym (ap (λ t. if t then changed_in (renamed_in name number) (files d) else files m) (ne_eqb m d ne)) ∙ is, refl, refl)
]
  where
    by : (o : Option Inode) → files d ≡ o → changed_in (renamed_in name number) o ≡ Some x → m ≡ d → (y : Inode) × (files m ≡ Some y) × (x.links ≡ y.links) × (times_in x ≡ times_in y)
    by None at e same = absurd (cc e)
    by (Some y) at e same =
        let is' : renamed_in name number y ≡ x = same_Some (renamed_in name number y) x e in
        (y, ap files same ∙ at, ap (λ (i : Inode). i.links) (sym is'), ap times_in (sym is'))
