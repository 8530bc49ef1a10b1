-- What `create` and `mkdir` leave is what their function of the files says.
use Rattle.std.proofs.Common.{◌≡◌, ◌≢◌, ℕ, ◌<◌, ◌⊎◌, Bool, true, false, List, get_or, Some, None, Ok, refl, sym, ◌∙◌, ap, inl, inr, arith, eq-eqb, subst, Contains, ◌==◌, ◌&&◌, ◌||◌, nat_lt, option_map, slice_set, if◌then◌else◌, get_or-set_other, get_or-set_same, eqb-true, ne_eqb}
use Rattle.ffs_lib.proofs.Common.{Answer, AreBlocksOnce, Directory, File, Files, HasBlocksOnce, InodeValue, NoEntry, blocks_value, bytes_value, cases_eq}
use Rattle.ffs_lib.proofs.Common.{create_in, created, direct_in, directory_in, fault_told, fields_of, files_of, half_at, if_new, inode_blocks, inode_in}
use Rattle.ffs_lib.proofs.Common.{inode_links, inode_mode, inode_value, is_absent, listing, made_at, name_of_place, new_directory, new_file, none-some}
use Rattle.ffs_lib.proofs.Common.{put_entry, room, room_in, same_Some, value_in, with_block, with_entry_in, word_at}
use Rattle.ffs_model.proofs.ForCallers.{direct_where}
use Rattle.ffs_lookup.specs.declared.places.Room.TheVariants.{Entry as InBlock, Pointer}
use Rattle.ffs_lookup.proofs.ForCallers.{created_ok, direct_has, good_number, has_root, put_is, room_is, room_known, room_of, value_by_place, value_found, value_outside, value_there, value_used}
use Rattle.ffs_lib.specs.Results.{HasMore, IsLowestNumber, MadeEntry, new_inode}
use Rattle.ffs_lib.specs.Values.{Leads}
use Rattle.ffs_lib.proofs.Tests.{and_false, never, true_false}
use Rattle.ffs_lib.proofs.Entering.{directory_from}
use Rattle.ffs_lib.proofs.Fields.{direct_get}
use Rattle.ffs_lib.proofs.Owners.{Stands, number_from, passed, stands_from}
use Rattle.ffs_lib.proofs.ValueSame.{block_apart, block_here_free, stays_value, together}
use Rattle.ffs_lib.proofs.ValueLists.{both_true, none_listed_there, place_listed, there_in, there_more, value_of_listed}

-- The directory

module _ (v w : ℕ → List ℕ) (fs d n : ℕ) (name inode : List ℕ) (m : HasMore v w fs d inode name n) (once : HasBlocksOnce m.after) where
  abbrev block : ℕ
  block = m.entry.block

  abbrev place : ℕ
  place = m.entry.place

  pointed : (i : ℕ) → (a : List ℕ) → i < 12 → direct_in a i ≢ 0 → Contains (inode_blocks a) (direct_in a i)
  pointed i a lt ne = direct_has a i (direct_in a i) lt refl ne

  lists : (b p : ℕ) → there_in b p (listing w m.after) ≡ (if (block == b) && (place == p) then Some (name, m.entry.inode) else there_in b p (listing v inode))
  lists b p = ap (there_in b p) m.is ∙ there_more m.entry name m.front m.back (listing v inode) m.was m.alone b p

  is_here : (b p : ℕ) → block ≡ b → place ≡ p → there_in b p (listing w m.after) ≡ Some (name, m.entry.inode)
  is_here b p e f = lists b p ∙ ap (λ t. if t then Some (name, m.entry.inode) else there_in b p (listing v inode)) (both_true (block == b) (place == p) (eq-eqb block b e) (eq-eqb place p f))

  apart : (b p : ℕ) → (block ≢ b) ⊎ (place ≢ p) → there_in b p (listing w m.after) ≡ there_in b p (listing v inode)
  apart b p h = lists b p ∙ ap (λ t. if t then Some (name, m.entry.inode) else there_in b p (listing v inode)) (away h)
    where
      away : (block ≢ b) ⊎ (place ≢ p) → (block == b) && (place == p) ≡ false
      away (inl ne) = ap (λ t. t && (place == p)) (ne_eqb block b ne)
      away (inr ne) = ap (λ t. (block == b) && t) (ne_eqb place p ne) ∙ and_false (block == b)

  there : block ≢ 0
  there z =
      let none = none_listed_there block place w m.after (λ i. let x = direct_where m.after block i in x.3 z) in
      none-some (name, m.entry.inode) (sym (ap (option_map value_of_listed) none) ∙ is_here block place refl refl)

  put_at : (k p0 : ℕ) → k < 12 → p0 < 16 → direct_in m.after k ≡ block → place ≡ p0 → ((i : ℕ) → i < 12 → i ≢ k → direct_in m.after i ≡ direct_in inode i) → (direct_in inode k ≡ block) ⊎ (direct_in inode k ≡ 0) →
      blocks_value w m.after ≡ put_entry (blocks_value v inode) (k, p0) (Some (name, n))
  put_at k p0 low few points where_ directs was =
      put_is v w inode m.after k p0 low few (Some (name, n)) directs (λ z. there (sym points ∙ z)) others here
    where
      others : (i p : ℕ) → i < 12 → i ≢ k → direct_in inode i ≢ 0 → p < 16 → name_of_place (w (direct_in inode i)) p ≡ name_of_place (v (direct_in inode i)) p
      others i p lt ne some lt' =
          let b = direct_in inode i in
          let same = directs i lt ne in
          let in_new : Contains (inode_blocks m.after) b = subst (λ (x : ℕ). Contains (inode_blocks m.after) x) same (pointed i m.after lt (λ z. some (sym same ∙ z))) in
          place_listed b p w lt' m.after in_new
          ∙ (apart b p (inl (λ e. ne (once i k lt low (λ z. some (sym same ∙ z)) (same ∙ (sym e ∙ sym points)))))
          ∙ sym (place_listed b p v lt' inode (pointed i inode lt some)))

      listed : (p : ℕ) → p < 16 → name_of_place (w (direct_in m.after k)) p ≡ there_in block p (listing w m.after)
      listed p lt' =
          ap (λ b. name_of_place (w b) p) points
          ∙ place_listed block p w lt' m.after (subst (λ (x : ℕ). Contains (inode_blocks m.after) x) points (pointed k m.after low (λ z. there (sym points ∙ z))))

      before : (p : ℕ) → p < 16 → there_in block p (listing v inode) ≡ (if direct_in inode k == 0 then None else name_of_place (v (direct_in inode k)) p)
      before p lt' = elim was [
        | inl e ↦
            let ne : direct_in inode k ≢ 0 = λ z. there (sym e ∙ z) in
            sym (ap (λ t. if t then None else name_of_place (v (direct_in inode k)) p) (ne_eqb (direct_in inode k) 0 ne)
            ∙ (ap (λ b. name_of_place (v b) p) e ∙ place_listed block p v lt' inode (subst (λ (x : ℕ). Contains (inode_blocks inode) x) e (pointed k inode low ne))))
        | inr z ↦
            ap (option_map value_of_listed) (none_listed_there block p v inode (λ i. let x = direct_where inode block i in new_one x.0 x.1 x.2 z))
            ∙ sym (ap (λ t. if t then None else name_of_place (v (direct_in inode k)) p) (eq-eqb (direct_in inode k) 0 z))
      ]
        where
          new_one : (i : ℕ) → i < 12 → direct_in inode i ≡ block → direct_in inode k ≡ 0 → ⊥
          new_one i lt e z = elim (cases_eq i k) [
            | inl same ↦ there (sym e ∙ (ap (direct_in inode) same ∙ z))
            | inr ne ↦
                let kept = directs i lt ne in
                ne (once i k lt low (λ y. there (sym e ∙ (sym kept ∙ y))) (kept ∙ (e ∙ sym points)))
          ]

      here : (p : ℕ) → p < 16 → name_of_place (w (direct_in m.after k)) p ≡ (if p == p0 then Some (name, n) else (if direct_in inode k == 0 then None else name_of_place (v (direct_in inode k)) p))
      here p lt' = listed p lt' ∙ elim (cases_eq p p0) [
        | inl e ↦
            is_here block p refl (where_ ∙ sym e) ∙ (ap (λ x. Some (name, x)) m.inode_named
            ∙ ap (λ t. if t then Some (name, n) else (if direct_in inode k == 0 then None else name_of_place (v (direct_in inode k)) p)) (sym (eq-eqb p p0 e)))
        | inr ne ↦
            apart block p (inr (λ z. ne (sym z ∙ where_))) ∙ (before p lt'
            ∙ ap (λ t. if t then Some (name, n) else (if direct_in inode k == 0 then None else name_of_place (v (direct_in inode k)) p)) (sym (ne_eqb p p0 ne)))
      ]

  -- its blocks are as before, but for one entry more where there is room
  pub blocks_more : (at : ℕ × ℕ) → Some at ≡ room (blocks_value v inode) → blocks_value w m.after ≡ put_entry (blocks_value v inode) at (Some (name, n))
  blocks_more at e =
      let known = room_known v inode at e in
      let found : room_in v inode ≡ Some (room_of v inode at) = room_is v inode ∙ ap (option_map (room_of v inode)) (sym e) in
      elim m.placed [
        | inl p ↦
            let same : InBlock block place ≡ room_of v inode at = same_Some (InBlock block place) (room_of v inode at) (p.0 ∙ found) in
            let direct : (i : ℕ) → i < 12 → direct_in m.after i ≡ direct_in inode i = λ i lt. direct_get m.after i lt ∙ (ap (λ xs. get_or xs i 0) p.1 ∙ sym (direct_get inode i lt)) in
            in_block (direct_in inode at.0 == 0) same known direct
        | inr p ↦
            let same : Pointer p.0 ≡ room_of v inode at = same_Some (Pointer p.0) (room_of v inode at) (p.1 ∙ found) in
            in_pointer (direct_in inode at.0 == 0) refl p.0 same known p.2 p.3
      ]
    where
      in_block : (t : Bool) → InBlock block place ≡ (if t then Pointer at.0 else InBlock (direct_in inode at.0) at.1) → (at.0 < 12) × (at.1 < 16) × (direct_in inode at.0 ≡ 0 → at.1 ≡ 0) →
          ((i : ℕ) → i < 12 → direct_in m.after i ≡ direct_in inode i) → blocks_value w m.after ≡ put_entry (blocks_value v inode) at (Some (name, n))
      in_block true same known direct = absurd (cc same)
      in_block false same known direct =
          let b : block ≡ direct_in inode at.0 = cc same in
          let q : place ≡ at.1 = cc same in
          put_at at.0 at.1 known.0 known.1 (direct at.0 known.0 ∙ sym b) q (λ i lt ne. direct i lt) (inl (sym b))

      in_pointer : (t : Bool) → (direct_in inode at.0 == 0) ≡ t → (index : ℕ) → Pointer index ≡ (if t then Pointer at.0 else InBlock (direct_in inode at.0) at.1) → (at.0 < 12) × (at.1 < 16) × (direct_in inode at.0 ≡ 0 → at.1 ≡ 0) →
          place ≡ 0 → (fields_of m.after).direct ≡ slice_set (fields_of inode).direct index block → blocks_value w m.after ≡ put_entry (blocks_value v inode) at (Some (name, n))
      in_pointer false z index same known zero set = absurd (cc same)
      in_pointer true z index same known zero set =
          let k : index ≡ at.0 = cc same in
          let none = eqb-true (direct_in inode at.0) 0 z in
          let set' : (fields_of m.after).direct ≡ slice_set (fields_of inode).direct at.0 block = set ∙ ap (λ j. slice_set (fields_of inode).direct j block) k in
          put_at at.0 at.1 known.0 known.1 (direct_get m.after at.0 known.0 ∙ (ap (λ xs. get_or xs at.0 0) set' ∙ get_or-set_same (fields_of inode).direct at.0 block 0 known.0)) (zero ∙ sym (known.2 none))
          (λ i lt ne. direct_get m.after i lt ∙ (ap (λ xs. get_or xs i 0) set' ∙ (get_or-set_other (fields_of inode).direct at.0 i block 0 ne ∙ sym (direct_get inode i lt)))) (inr none)

  -- a pointer that was there stays
  pub pointer_kept : (at : ℕ × ℕ) → Some at ≡ room (blocks_value v inode) → (i : ℕ) → i < 12 → direct_in inode i ≢ 0 → direct_in m.after i ≡ direct_in inode i
  pointer_kept at e i lt some =
      let found : room_in v inode ≡ Some (room_of v inode at) = room_is v inode ∙ ap (option_map (room_of v inode)) (sym e) in
      elim m.placed [
        | inl p ↦ direct_get m.after i lt ∙ (ap (λ xs. get_or xs i 0) p.1 ∙ sym (direct_get inode i lt))
        | inr p ↦
            let same : Pointer p.0 ≡ room_of v inode at = same_Some (Pointer p.0) (room_of v inode at) (p.1 ∙ found) in
            new_one (direct_in inode at.0 == 0) refl p.0 same p.3
      ]
    where
      new_one : (t : Bool) → (direct_in inode at.0 == 0) ≡ t → (index : ℕ) → Pointer index ≡ (if t then Pointer at.0 else InBlock (direct_in inode at.0) at.1) → (fields_of m.after).direct ≡ slice_set (fields_of inode).direct index block →
          direct_in m.after i ≡ direct_in inode i
      new_one false z index same set = absurd (cc same)
      new_one true z index same set =
          let k : index ≡ at.0 = cc same in
          let apart : i ≢ index = λ y. some (ap (direct_in inode) (y ∙ k) ∙ eqb-true (direct_in inode at.0) 0 z) in
          direct_get m.after i lt ∙ (ap (λ xs. get_or xs i 0) set ∙ (get_or-set_other (fields_of inode).direct index i block 0 apart ∙ sym (direct_get inode i lt)))

  -- and where it has a new block its pointers are others
  pub pointer_new : (at : ℕ × ℕ) → Some at ≡ room (blocks_value v inode) → (index : ℕ) → Some (Pointer index) ≡ room_in v inode → (fields_of m.after).direct ≡ slice_set (fields_of inode).direct index block →
      (fields_of m.after).direct ≡ (fields_of inode).direct → ⊥
  pointer_new at e index points set equal =
      let found : room_in v inode ≡ Some (room_of v inode at) = room_is v inode ∙ ap (option_map (room_of v inode)) (sym e) in
      new_one (direct_in inode at.0 == 0) refl (room_known v inode at e).0 (same_Some (Pointer index) (room_of v inode at) (points ∙ found))
    where
      new_one : (t : Bool) → (direct_in inode at.0 == 0) ≡ t → at.0 < 12 → Pointer index ≡ (if t then Pointer at.0 else InBlock (direct_in inode at.0) at.1) → ⊥
      new_one false z low same = cc same
      new_one true z low same =
          let k : index ≡ at.0 = cc same in
          there (sym (get_or-set_same (fields_of inode).direct at.0 block 0 low)
          ∙ (ap (λ j. get_or (slice_set (fields_of inode).direct j block) at.0 0) (sym k)
          ∙ (ap (λ xs. get_or xs at.0 0) (sym set ∙ equal) ∙ (sym (direct_get inode at.0 low) ∙ eqb-true (direct_in inode at.0) 0 z))))

-- All inodes

pub directory_value : (content : ℕ → List ℕ) (fs d : ℕ) (inode : List ℕ) → Ok inode ≡ directory_in content fs d → files_of content fs d ≡ Directory (inode_links inode) (blocks_value content inode)
directory_value content fs d inode e =
    let own = directory_from content fs d inode e in
    value_found content fs d inode own.0
    ∙ (value_used content inode (ap (λ k. k == 0) own.1)
    ∙ ap (λ (t : Bool). if t then Directory (inode_links inode) (blocks_value content inode) else File (inode_links inode) (bytes_value content inode)) (eq-eqb (inode_mode inode) 2 own.1))

module _ (v w : ℕ → List ℕ) (fs d n mode : ℕ) (name inode : List ℕ) (dir : Ok inode ≡ directory_in v fs d) (m : MadeEntry v w fs d name mode n) (once : AreBlocksOnce w fs) (value : InodeValue) (is : inode_value w (new_inode mode) ≡ value)
    (at : ℕ × ℕ) (room_at : Some at ≡ room (blocks_value v inode)) where
  more : HasMore v w fs d inode name n
  more = m.entry inode dir

  abbrev files : Files
  files = files_of v fs

  abbrev middle : Files
  middle y = if y == n then value else with_block files n y

  n_in_use : Stands w fs n (new_inode mode)
  n_in_use = stands_from w fs n (new_inode mode) (sym m.made)

  right : (n == 0) || nat_lt 128 n ≡ false
  right = good_number n n_in_use.some n_in_use.low

  d_apart : d ≢ n
  d_apart e = never inode NoEntry ((directory_from v fs d inode dir).0 ∙ (ap (inode_in v fs) e ∙ m.free))

  n_present : is_absent (files_of w fs n) ≡ false
  n_present = ap is_absent (value_found w fs n (new_inode mode) (sym m.made)) ∙ value_there w (new_inode mode)

  old_directory : files d ≡ Directory (inode_links inode) (blocks_value v inode)
  old_directory = directory_value v fs d inode dir

  middle_directory : middle d ≡ Directory (inode_links inode) (blocks_value v inode)
  middle_directory =
      ap (λ (t : Bool). if t then value else with_block files n d) (ne_eqb d n d_apart)
      ∙ (block_apart v fs n d right (λ a same b some. true_false (is_absent (files d)) a (ap is_absent old_directory)) ∙ old_directory)

  new_directory_is : files_of w fs d ≡ with_entry_in at (Some (name, n)) (middle d)
  new_directory_is =
      directory_value w fs d more.after more.directory
      ∙ (ap (λ l. Directory l (blocks_value w more.after)) more.links
      ∙ (ap (Directory (inode_links inode)) (blocks_more v w fs d n name inode more (once d more.after more.directory) at room_at) ∙ ap (with_entry_in at (Some (name, n))) (sym middle_directory)))

  other_value : (x : ℕ) → x ≢ d → x ≢ n → files_of w fs x ≡ with_block files n x
  other_value x ne ne' = go ((x == 0) || nat_lt 128 x) refl
    where
      go : (t : Bool) → ((x == 0) || nat_lt 128 x) ≡ t → files_of w fs x ≡ with_block files n x
      go true e =
          value_outside w fs x e ∙ (sym (value_outside v fs x e)
          ∙ sym (block_apart v fs n x right (λ a same b some. let low = n_in_use.low in true_false ((x == 0) || nat_lt 128 x) e (good_number x some (omega (arith, same, low))))))
      go false e =
          let r = number_from x e in
          let o = m.others x ne ne' in
          elim (o.2 r.0 r.1) [
            | inl p ↦
                let same = stays_value v w fs x (λ some low. p) o.1 in
                same ∙ sym (block_apart v fs n x right (λ a joint b some. true_false (is_absent (files_of w fs x)) (ap is_absent same ∙ a) (together w fs x n e right joint ∙ n_present)))
            | inr k ↦
                value_by_place w fs x e ∙ (ap (value_in w) k.free
                ∙ sym (block_here_free v fs n x (sym (together v fs x n e right k.together) ∙ ap is_absent (value_by_place v fs x e ∙ ap (value_in v) k.absent)) r.0 k.together))
          ]

  -- what the function says is there
  pub made_value : (x : ℕ) → files_of w fs x ≡ (made_at value files d name n at).1 x
  made_value x = elim (cases_eq x d) [
    | inl e ↦ ap (files_of w fs) e ∙ (new_directory_is ∙ sym (ap (λ (t : Bool). if t then with_entry_in at (Some (name, n)) (middle d) else middle x) (eq-eqb x d e)))
    | inr ne ↦
        elim (cases_eq x n) [
          | inl e ↦ ap (files_of w fs) e ∙ (value_found w fs n (new_inode mode) (sym m.made) ∙ (is ∙ sym (ap (λ (t : Bool). if t then value else with_block files n x) (eq-eqb x n e))))
          | inr ne' ↦ other_value x ne ne' ∙ sym (ap (λ (t : Bool). if t then value else with_block files n x) (ne_eqb x n ne'))
        ]
        ∙ sym (ap (λ (t : Bool). if t then with_entry_in at (Some (name, n)) (middle d) else middle x) (ne_eqb x d ne))
  ]

-- a new file, and a new directory
pub file_made : (content : ℕ → List ℕ) → inode_value content (new_inode 1) ≡ new_file
unfolding half_at word_at
file_made content = refl

pub directory_made : (content : ℕ → List ℕ) → inode_value content (new_inode 2) ≡ new_directory
unfolding half_at word_at
directory_made content = refl

pub create_found : (content : ℕ → List ℕ) (fs d : ℕ) (name inode : List ℕ) → Ok inode ≡ create_in content fs d name → (own : List ℕ) × (Ok own ≡ directory_in content fs d)
unfolding create_in
create_found content fs d name inode e = let p = passed (directory_in content fs d) (if_new content fs name) inode e in (p.0, p.1)

pub created_value : (v w : ℕ → List ℕ) (fs d n mode : ℕ) (name inode : List ℕ) → Ok inode ≡ create_in v fs d name → MadeEntry v w fs d name mode n → IsLowestNumber v fs n → AreBlocksOnce w fs → (value : InodeValue) → inode_value w (new_inode mode) ≡ value →
    (next : ℕ × Files) × (created value (files_of v fs) d name ≡ Ok next) × (n ≡ next.0) × ((x : ℕ) → files_of w fs x ≡ next.1 x)
created_value v w fs d n mode name inode e m low once value is =
    let found = create_found v fs d name inode e in
    let r = has_root v fs d found.0 found.1 in
    let k = created_ok v fs value d name found.0 r.0 n found.1 (ap fault_told e) r.1 (low r.0 r.1) in
    (made_at value (files_of v fs) d name n k.0, k.2, refl, made_value v w fs d n mode name found.0 found.1 m once value is k.0 k.1)

pub created_leads : (v w : ℕ → List ℕ) (fs d n mode : ℕ) (name inode : List ℕ) → Ok inode ≡ create_in v fs d name → MadeEntry v w fs d name mode n → IsLowestNumber v fs n → AreBlocksOnce w fs → (value : InodeValue) → inode_value w (new_inode mode) ≡ value →
    Leads (created value (files_of v fs) d name) w fs n
created_leads v w fs d n mode name inode e m low once value is =
    let r = created_value v w fs d n mode name inode e m low once value is in
    subst (λ (a : Answer ℕ). Leads a w fs n) (sym r.1) (r.2, r.3)
