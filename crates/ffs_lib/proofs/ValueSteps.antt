-- What each edit of a name does to the files.
use Rattle.std.proofs.Common.{◌≡◌, ◌≢◌, ℕ, ◌+◌, ◌-◌, ◌<◌, ◌≤◌, Bool, true, false, List, get_or, Option, Some, None, Ok, refl, sym, ◌∙◌, ap, inl, inr, arith, eq-eqb, Contains, option_map, ◌==◌, ◌&&◌, if◌then◌else◌, eqb-true, le-leb, ne_eqb}
use Rattle.ffs_lib.proofs.Common.{HasBlocksOnce, Slot, blocks_value, bytes_value, cases_eq, cases_lt, direct_in, directory_in, files_of, inode_blocks, inode_in}
use Rattle.ffs_lib.proofs.Common.{inode_links, inode_mode, listing, lt-leb, name_of_place, value_in}
use Rattle.ffs_lookup.specs.Files.{Absent, Directory, Entry, File, Files, Free, InodeValue, Unusable, less_a_link, links_of, put_entry, with_entry, with_entry_in, with_value, without_link}
use Rattle.ffs_lookup.proofs.ForCallers.{IsPlaceOf, direct_has, good_number, put_is, value_by_place, value_found, value_used}
use Rattle.ffs_lib.specs.Reclaiming.{with_links}
use Rattle.ffs_lib.specs.Replacing.{Turned}
use Rattle.ffs_lib.specs.Results.{IsAs, SameInode, TookLink}
use Rattle.ffs_lib.specs.Stages.{more_a_link, with_link}
use Rattle.ffs_lib.specs.Steps.{AddsLink, Clearing, TakesLink}
use Rattle.ffs_lib.proofs.Entering.{directory_from, directory_same}
use Rattle.ffs_lib.proofs.Fields.{direct_get}
use Rattle.ffs_lib.proofs.Owners.{stands_from}
use Rattle.ffs_lib.proofs.ValueLists.{both_true, naming, place_listed, there_in, there_turned, there_without}
use Rattle.ffs_lib.proofs.ValueMade.{directory_value}
use Rattle.ffs_lib.proofs.ValueSame.{blocks_same, bytes_same, same_value}

pub files_equal : {f g : Files} → ((n : ℕ) → f n ≡ g n) → f ≡ g
files_equal h = λ i n. h n i

-- Directories

-- one entry is another
module _ (u v : ℕ → List ℕ) (own : List ℕ) (once : HasBlocksOnce own) (slot : Slot) (at : ℕ × ℕ) (k : IsPlaceOf own slot at) (new : Option Entry)
    (lists : (b p : ℕ) → there_in b p (listing v own) ≡ (if (slot.block == b) && (slot.place == p) then new else there_in b p (listing u own))) where
  pointed : (i : ℕ) → i < 12 → direct_in own i ≢ 0 → Contains (inode_blocks own) (direct_in own i)
  pointed i lt some = direct_has own i (direct_in own i) lt refl some

  some_here : direct_in own at.0 ≢ 0
  some_here z = k.there (sym k.block ∙ z)

  pub entry_changed : blocks_value v own ≡ put_entry (blocks_value u own) at new
  entry_changed = put_is u v own own at.0 at.1 k.low k.few new (λ i lt ne. refl) some_here others here
    where
      others : (i p : ℕ) → i < 12 → i ≢ at.0 → direct_in own i ≢ 0 → p < 16 → name_of_place (v (direct_in own i)) p ≡ name_of_place (u (direct_in own i)) p
      others i p lt ne some lt' =
          let b = direct_in own i in
          let away : (slot.block == b) && (slot.place == p) ≡ false = ap (λ t. t && (slot.place == p)) (ne_eqb slot.block b (λ e. ne (once i at.0 lt k.low some (sym e ∙ sym k.block)))) in
          place_listed b p v lt' own (pointed i lt some) ∙ (lists b p ∙ (ap (λ t. if t then new else there_in b p (listing u own)) away ∙ sym (place_listed b p u lt' own (pointed i lt some))))

      here : (p : ℕ) → p < 16 → name_of_place (v (direct_in own at.0)) p ≡ (if p == at.1 then new else if direct_in own at.0 == 0 then None else name_of_place (u (direct_in own at.0)) p)
      here p lt' =
          let b = direct_in own at.0 in
          place_listed b p v lt' own (pointed at.0 k.low some_here) ∙ (lists b p ∙ elim (cases_eq p at.1) [
            | inl e ↦
                ap (λ t. if t then new else there_in b p (listing u own)) (both_true (slot.block == b) (slot.place == p) (eq-eqb slot.block b (sym k.block)) (eq-eqb slot.place p (sym k.place ∙ sym e)))
                ∙ sym (ap (λ t. if t then new else if b == 0 then None else name_of_place (u b) p) (eq-eqb p at.1 e))
            | inr ne ↦
                ap (λ t. if t && (slot.place == p) then new else there_in b p (listing u own)) (eq-eqb slot.block b (sym k.block))
                ∙ (ap (λ t. if t then new else there_in b p (listing u own)) (ne_eqb slot.place p (λ z. ne (sym z ∙ sym k.place)))
                ∙ (sym (place_listed b p u lt' own (pointed at.0 k.low some_here))
                ∙ (ap (λ t. if t then None else name_of_place (u b) p) (sym (ne_eqb b 0 some_here)) ∙ ap (λ t. if t then new else if b == 0 then None else name_of_place (u b) p) (sym (ne_eqb p at.1 ne)))))
          ])

-- and so are the files, where no other inode changed
pub entry_value : (u v : ℕ → List ℕ) (fs d : ℕ) (own after : List ℕ) (at : ℕ × ℕ) (new : Option Entry) → Ok own ≡ directory_in u fs d → Ok after ≡ directory_in v fs d → inode_links after ≡ inode_links own →
    blocks_value v after ≡ put_entry (blocks_value u own) at new → ((x : ℕ) → x ≢ d → SameInode u v fs x) → files_of v fs ≡ with_entry (files_of u fs) d at new
entry_value u v fs d own after at new is now links blocks others = files_equal (λ x. elim (cases_eq x d) [
  | inl e ↦
      ap (files_of v fs) e
      ∙ (directory_value v fs d after now
      ∙ (ap (λ l. Directory l (blocks_value v after)) links
      ∙ (ap (Directory (inode_links own)) blocks
      ∙ (ap (with_entry_in at new) (sym (directory_value u fs d own is)) ∙ sym (ap (λ t. if t then with_entry_in at new (files_of u fs d) else files_of u fs x) (eq-eqb x d e))))))
  | inr ne ↦ same_value u v fs x (others x ne) ∙ sym (ap (λ t. if t then with_entry_in at new (files_of u fs d) else files_of u fs x) (ne_eqb x d ne))
])

module _ (u v : ℕ → List ℕ) (fs d : ℕ) (own : List ℕ) (is : Ok own ≡ directory_in u fs d) (once : HasBlocksOnce own) (slot : Slot) (at : ℕ × ℕ) (k : IsPlaceOf own slot at) where
  has_block : Contains (inode_blocks own) slot.block
  has_block = direct_has own at.0 slot.block k.low k.block k.there

  -- an entry is cleared
  pub clearing_value : Clearing u v fs slot → files_of v fs ≡ with_entry (files_of u fs) d at None
  clearing_value c =
      entry_value u v fs d own own at None is (is ∙ sym (directory_same u v fs d (c.inodes d))) refl
      (entry_changed u v own once slot at k None (λ b p. ap (there_in b p) (c.entries own) ∙ there_without slot b p (listing u own))) (c.others d own (directory_from u fs d own is).0 has_block)

  -- what stands there
  pub stands_listed : (entry : Option Entry) → name_of_place (u slot.block) slot.place ≡ entry → there_in slot.block slot.place (listing u own) ≡ entry
  stands_listed entry e = let few = k.few in let place = k.place in sym (place_listed slot.block slot.place u (omega (arith, few, place)) own has_block) ∙ e

  -- or it names another inode
  pub turned_value : (name : List ℕ) (n : ℕ) → there_in slot.block slot.place (listing u own) ≡ Some (name, slot.inode) → Turned u v fs slot n → files_of v fs ≡ with_entry (files_of u fs) d at (Some (name, n))
  turned_value name n stood t =
      entry_value u v fs d own own at (Some (name, n)) is (is ∙ sym (directory_same u v fs d (t.inodes d))) refl
      (entry_changed u v own once slot at k (Some (name, n)) (λ b p. ap (there_in b p) (t.entries own) ∙ (there_turned slot n b p (listing u own) ∙ fix b p ((slot.block == b) && (slot.place == p)) refl)))
      (t.others d own (directory_from u fs d own is).0 has_block)
    where
      first : (s t : Bool) → s && t ≡ true → (s ≡ true) × (t ≡ true)
      first true true f = (refl, refl)
      first true false f = absurd (cc f)
      first false t f = absurd (cc f)

      fix : (b p : ℕ) (t : Bool) → ((slot.block == b) && (slot.place == p)) ≡ t → (if t then option_map (naming n) (there_in b p (listing u own)) else there_in b p (listing u own)) ≡ (if t then Some (name, n) else there_in b p (listing u own))
      fix b p false e = refl
      fix b p true e =
          let x = first (slot.block == b) (slot.place == p) e in
          ap (λ c. option_map (naming n) (there_in c p (listing u own))) (sym (eqb-true slot.block b x.0)) ∙ (ap (λ q. option_map (naming n) (there_in slot.block q (listing u own))) (sym (eqb-true slot.place p x.1)) ∙ ap (option_map (naming n)) stood)

-- Links

pub as_direct : (v w : ℕ → List ℕ) (fs n : ℕ) (inode : List ℕ) (k : IsAs v w fs n inode) (i : ℕ) → i < 12 → direct_in k.after i ≡ direct_in inode i
as_direct v w fs n inode k i lt = direct_get k.after i lt ∙ (ap (λ xs. get_or xs i 0) k.direct ∙ sym (direct_get inode i lt))

module _ (v w : ℕ → List ℕ) (fs n : ℕ) (inode : List ℕ) (is : Ok inode ≡ inode_in v fs n) where
  abbrev pub kind : (ℕ → List ℕ) → List ℕ → Bool → InodeValue
  kind content m t = if t then Directory (inode_links m) (blocks_value content m) else File (inode_links m) (bytes_value content m)

  pub kind_is : (content : ℕ → List ℕ) (m : List ℕ) → Ok m ≡ inode_in content fs n → files_of content fs n ≡ kind content m (inode_mode m == 2)
  kind_is content m e = value_found content fs n m e ∙ value_used content m (ne_eqb (inode_mode m) 0 (stands_from content fs n m e).used)

  -- an inode that is as before but for its links
  pub as_value : (k : IsAs v w fs n inode) → files_of w fs n ≡ with_links (inode_links k.after) (files_of v fs n)
  as_value k =
      let direct = as_direct v w fs n inode k in
      kind_is w k.after k.found
      ∙ (ap (λ m. kind w k.after (m == 2)) k.mode
      ∙ (ap (λ bs. if inode_mode inode == 2 then Directory (inode_links k.after) bs else File (inode_links k.after) (bytes_value w k.after)) (blocks_same v w inode k.after direct k.entries k.size k.each)
      ∙ (ap (λ m. if inode_mode inode == 2 then Directory (inode_links k.after) (blocks_value v inode) else File (inode_links k.after) m) (bytes_same v w inode k.after direct k.entries k.size k.each)
      ∙ (go (inode_mode inode == 2) ∙ ap (with_links (inode_links k.after)) (sym (kind_is v inode is))))))
    where
      go : (t : Bool) → (if t then Directory (inode_links k.after) (blocks_value v inode) else File (inode_links k.after) (bytes_value v inode)) ≡ with_links (inode_links k.after) (kind v inode t)
      go true = refl
      go false = refl

  -- one that has a link less, or is free
  pub took_link_value : TookLink v w fs n inode → files_of w fs n ≡ less_a_link (files_of v fs n)
  took_link_value t = elim (cases_lt 1 (inode_links inode)) [
    | inl lt ↦
        let k = t.kept lt in
        as_value k.0 ∙ (ap (λ l. with_links l (files_of v fs n)) k.1 ∙ (ap (with_links (inode_links inode - 1)) (kind_is v inode is) ∙ (many lt (inode_mode inode == 2) ∙ sym (ap less_a_link (kind_is v inode is)))))
    | inr le ↦
        let s = stands_from v fs n inode is in
        value_by_place w fs n (good_number n s.some s.low) ∙ (ap (value_in w) (t.zeroed le) ∙ (sym (last le (inode_mode inode == 2)) ∙ sym (ap less_a_link (kind_is v inode is))))
  ]
    where
      many : 1 < inode_links inode → (t : Bool) → with_links (inode_links inode - 1) (kind v inode t) ≡ less_a_link (kind v inode t)
      many lt true = sym (ap (λ (u : Bool). if u then Free else Directory (inode_links inode - 1) (blocks_value v inode)) (lt-leb (inode_links inode) 1 lt))
      many lt false = sym (ap (λ (u : Bool). if u then Free else File (inode_links inode - 1) (bytes_value v inode)) (lt-leb (inode_links inode) 1 lt))

      last : inode_links inode ≤ 1 → (t : Bool) → less_a_link (kind v inode t) ≡ Free
      last le true = ap (λ (u : Bool). if u then Free else Directory (inode_links inode - 1) (blocks_value v inode)) (le-leb (inode_links inode) 1 le)
      last le false = ap (λ (u : Bool). if u then Free else File (inode_links inode - 1) (bytes_value v inode)) (le-leb (inode_links inode) 1 le)

-- its links
pub inode_linked : (v : ℕ → List ℕ) (fs n : ℕ) (inode : List ℕ) → Ok inode ≡ inode_in v fs n → links_of (files_of v fs n) ≡ inode_links inode
inode_linked v fs n inode is = ap links_of (kind_is v v fs n inode is v inode is) ∙ go (inode_mode inode == 2)
  where
    go : (t : Bool) → links_of (kind v v fs n inode is v inode t) ≡ inode_links inode
    go true = refl
    go false = refl

-- one inode is another, and all others are as before
pub value_at : (v w : ℕ → List ℕ) (fs n : ℕ) (value : InodeValue) → files_of w fs n ≡ value → ((x : ℕ) → x ≢ n → SameInode v w fs x) → files_of w fs ≡ with_value (files_of v fs) n value
value_at v w fs n value e others = files_equal (λ x. elim (cases_eq x n) [
  | inl z ↦ ap (files_of w fs) z ∙ (e ∙ sym (ap (λ t. if t then value else files_of v fs x) (eq-eqb x n z)))
  | inr ne ↦ same_value v w fs x (others x ne) ∙ sym (ap (λ t. if t then value else files_of v fs x) (ne_eqb x n ne))
])

pub takes_value : (v w : ℕ → List ℕ) (fs n : ℕ) (inode : List ℕ) → Ok inode ≡ inode_in v fs n → TakesLink v w fs n → files_of w fs ≡ without_link (files_of v fs) n
takes_value v w fs n inode is t = value_at v w fs n (less_a_link (files_of v fs n)) (took_link_value v w fs n inode is (t.took inode is)) t.others

pub adds_value : (v w : ℕ → List ℕ) (fs n : ℕ) (inode : List ℕ) → Ok inode ≡ inode_in v fs n → AddsLink v w fs n → files_of w fs ≡ with_link (files_of v fs) n
adds_value v w fs n inode is l =
    let k = l.before n inode is in
    value_at v w fs n (more_a_link (files_of v fs n))
    (as_value v w fs n inode is k ∙ (ap (λ m. with_links m (files_of v fs n)) (l.links inode k.after is k.found) ∙ (ap (with_links (inode_links inode + 1)) (kind_is v w fs n inode is v inode is) ∙ (one (inode_mode inode == 2) ∙ sym (ap more_a_link (kind_is v w fs n inode is v inode is)))))) l.others
  where
    one : (t : Bool) → with_links (inode_links inode + 1) (kind v w fs n inode is v inode t) ≡ more_a_link (kind v w fs n inode is v inode t)
    one true = refl
    one false = refl

-- a link that is added and taken again, with entries put between
pub entry_after_link : (files : Files) (n d : ℕ) (at : ℕ × ℕ) (entry : Option Entry) → with_entry (with_link files n) d at entry ≡ with_link (with_entry files d at entry) n
entry_after_link files n d at entry = files_equal (λ x. elim (cases_eq d n) [
  | inl same ↦
      elim (cases_eq x d) [
        | inl e ↦
            ap (λ t. if t then with_entry_in at entry (with_link files n d) else with_link files n x) (eq-eqb x d e)
            ∙ (ap (λ t. with_entry_in at entry (if t then more_a_link (files n) else files d)) (eq-eqb d n same)
            ∙ (commute (files n)
            ∙ (ap (λ m. more_a_link (with_entry_in at entry (files m))) (sym same)
            ∙ (ap (λ t. more_a_link (if t then with_entry_in at entry (files d) else files n)) (sym (eq-eqb n d (sym same)))
            ∙ ap (λ t. if t then more_a_link (with_entry files d at entry n) else with_entry files d at entry x) (sym (eq-eqb x n (e ∙ same)))))))
        | inr ne ↦
            let ne' : x ≢ n = λ z. ne (z ∙ sym same) in
            ap (λ t. if t then with_entry_in at entry (with_link files n d) else with_link files n x) (ne_eqb x d ne)
            ∙ (ap (λ t. if t then more_a_link (files n) else files x) (ne_eqb x n ne')
            ∙ (ap (λ t. if t then with_entry_in at entry (files d) else files x) (sym (ne_eqb x d ne)) ∙ ap (λ t. if t then more_a_link (with_entry files d at entry n) else with_entry files d at entry x) (sym (ne_eqb x n ne'))))
      ]
  | inr apart ↦
      elim (cases_eq x d) [
        | inl e ↦
            let ne' : x ≢ n = λ z. apart (sym e ∙ z) in
            ap (λ t. if t then with_entry_in at entry (with_link files n d) else with_link files n x) (eq-eqb x d e)
            ∙ (ap (λ t. with_entry_in at entry (if t then more_a_link (files n) else files d)) (ne_eqb d n apart)
            ∙ (ap (λ t. if t then with_entry_in at entry (files d) else files x) (sym (eq-eqb x d e)) ∙ ap (λ t. if t then more_a_link (with_entry files d at entry n) else with_entry files d at entry x) (sym (ne_eqb x n ne'))))
        | inr ne ↦
            ap (λ t. if t then with_entry_in at entry (with_link files n d) else with_link files n x) (ne_eqb x d ne)
            ∙ (one x ne (x == n)
            ∙ ap (λ m. if x == n then more_a_link m else with_entry files d at entry x) (sym (ap (λ t. if t then with_entry_in at entry (files d) else files n) (ne_eqb n d (λ z. apart (sym z))))))
      ]
])
  where
    commute : (v : InodeValue) → with_entry_in at entry (more_a_link v) ≡ more_a_link (with_entry_in at entry v)
    commute Absent = refl
    commute Free = refl
    commute Unusable = refl
    commute (File links bytes) = refl
    commute (Directory links blocks) = refl

    one : (x : ℕ) → x ≢ d → (t : Bool) → (if t then more_a_link (files n) else files x) ≡ (if t then more_a_link (files n) else with_entry files d at entry x)
    one x ne true = refl
    one x ne false = sym (ap (λ t. if t then with_entry_in at entry (files d) else files x) (ne_eqb x d ne))

pub link_and_less : (files : Files) (n : ℕ) → 1 ≤ links_of (files n) → without_link (with_link files n) n ≡ files
link_and_less files n some = files_equal (λ x. elim (cases_eq x n) [
  | inl e ↦
      ap (λ t. if t then less_a_link (with_link files n n) else with_link files n x) (eq-eqb x n e)
      ∙ (ap (λ t. less_a_link (if t then more_a_link (files n) else files n)) (eq-eqb n n refl) ∙ (less (files n) some ∙ ap files (sym e)))
  | inr ne ↦ ap (λ t. if t then less_a_link (with_link files n n) else with_link files n x) (ne_eqb x n ne) ∙ ap (λ t. if t then more_a_link (files n) else files x) (ne_eqb x n ne)
])
  where
    less : (v : InodeValue) → 1 ≤ links_of v → less_a_link (more_a_link v) ≡ v
    less Absent le = refl
    less Free le = refl
    less Unusable le = refl
    less (File links bytes) le =
        let z : links + 1 - 1 ≡ links = omega arith in
        ap (λ t. if t then Free else File (links + 1 - 1) bytes) (lt-leb (links + 1) 1 (omega (arith, le))) ∙ ap (λ l. File l bytes) z
    less (Directory links blocks) le =
        let z : links + 1 - 1 ≡ links = omega arith in
        ap (λ t. if t then Free else Directory (links + 1 - 1) blocks) (lt-leb (links + 1) 1 (omega (arith, le))) ∙ ap (λ l. Directory l blocks) z

pub links_of_entry : (files : Files) (n d : ℕ) (at : ℕ × ℕ) (entry : Option Entry) → links_of (with_entry files d at entry n) ≡ links_of (files n)
links_of_entry files n d at entry = elim (cases_eq n d) [
  | inl e ↦ ap (λ t. links_of (if t then with_entry_in at entry (files d) else files n)) (eq-eqb n d e) ∙ (same (files d) ∙ ap (λ m. links_of (files m)) (sym e))
  | inr ne ↦ ap (λ t. links_of (if t then with_entry_in at entry (files d) else files n)) (ne_eqb n d ne)
]
  where
    same : (v : InodeValue) → links_of (with_entry_in at entry v) ≡ links_of v
    same Absent = refl
    same Free = refl
    same Unusable = refl
    same (File links bytes) = refl
    same (Directory links blocks) = refl
