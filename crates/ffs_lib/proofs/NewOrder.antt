-- Which edits make a file, a directory or a volume.
use Rattle.std.proofs.Common.{◌≡◌, ℕ, zero, suc, ◌+◌, ◌-◌, ◌*◌, ◌/◌, ◌%◌, ◌<◌, ◌≤◌, Bool, true, false, List, [], ◌∷◌, length, Option, None, Some, Result, Ok, Err, refl, sym, ◌∙◌, ap, inl, inr, arith, subst, eq-eqb, IsErrAnd, IsOk, OnOk, find, option_map, ◌==◌, ◌&&◌, ◌||◌, not, if◌then◌else◌, ok_or, ne_eqb}
use Rattle.ffs_lib.proofs.Common.{FfsFault, IsFree, IsRoot, NoInode, StoreState, Types, and_then, cases_eq, create_in, entry_of, err_from_is_err_and}
use Rattle.ffs_lib.proofs.Common.{has_free_at, has_free_inode, init_of, inode_at, inode_block_in, is_free_inode, latest, list_any, make_in, number_in}
use Rattle.ffs_lib.proofs.Common.{pointer_word, range_with_len, result_and_then, root_in, slot_now, without_edit}
use Rattle.ffs_lookup.specs.declared.places.Free.{Free}
use Rattle.ffs_lookup.proofs.ForCallers.{pointer_is, root_again}
use Rattle.ffs_lib.specs.Edits.{edit_at}
use Rattle.ffs_lib.specs.Making.{StopsTop, first_pointer, rooted_of, top_inodes}
use Rattle.ffs_lib.specs.NewOrder.{AddsBlock, CreatesInOrder, MakesInOrder, NamesNew, Numbers, home_edits, block_action, empty_pointer, made_top, missing_block, missing_from, new_edits, new_in, rooted_by, top_attached, top_edits, with_last}
use Rattle.ffs_lib.specs.Orders.{Action, Attaches, Makes, StopsAct, act_of, entered_action, made_by, made_of}
use Rattle.ffs_lib.specs.Results.{IsLowestNumber, new_inode}
use Rattle.ffs_lib.specs.Steps.{Proposed}
use Rattle.ffs_lib.proofs.Counted.{first_none}
use Rattle.ffs_lib.proofs.Orders.{one_order}
use Rattle.ffs_lib.proofs.Tops.{bare_from, rootless_slot}

-- nothing was done
pub stops_same : (T : Types) (fs : ℕ) (action : Action) (old new : StoreState) → new ≡ old → StopsAct T fs action old new
stops_same T fs (Makes edits) old new e = first_none T fs edits old new e
stops_same T fs (Attaches ty bytes home edit) old new e = inl e

-- Whether a block of inodes is missing

pub missing_is : (content : ℕ → List ℕ) (fs root index : ℕ) → Ok root ≡ root_in content fs → has_free_inode content root ≡ false → Some index ≡ find (λ i. pointer_word (content root) i == 0) (range_with_len 0 16) →
    missing_block content fs ≡ Some (root, index)
missing_is content fs root index e none at =
    ap (missing_from content) (sym e) ∙ (ap (λ (t : Bool). if t then None else empty_pointer content root) none ∙ ap (option_map (λ i. (root, i))) (sym at))

missing_none : (content : ℕ → List ℕ) (fs root : ℕ) → Ok root ≡ root_in content fs → has_free_inode content root ≡ true → missing_block content fs ≡ None
missing_none content fs root e some = ap (missing_from content) (sym e) ∙ ap (λ (t : Bool). if t then None else empty_pointer content root) some

any_in : (p : ℕ → Bool) (a n i : ℕ) → a ≤ i → i < a + n → p i ≡ true → list_any p (range_with_len a n) ≡ true
any_in p a zero i from low e = absurd (omega (arith, from, low))
any_in p a (suc n) i from low e = elim (cases_eq i a) [
  | inl same ↦ ap (λ (t : Bool). t || list_any p (range_with_len (a + 1) n)) (sym (ap p same) ∙ e)
  | inr ne ↦ go (p a) (any_in p (a + 1) n i (omega (arith, from, ne)) (omega (arith, low)) e)
]
  where
    go : (t : Bool) → list_any p (range_with_len (a + 1) n) ≡ true → t || list_any p (range_with_len (a + 1) n) ≡ true
    go true f = refl
    go false f = f

-- none is, where an inode is free
pub free_there : (state : StoreState) (fs : ℕ) (free : Free) → IsFree state fs free → missing_block (latest state.lives) fs ≡ None
free_there state fs free is =
    let v = latest state.lives in
    let stands = is.stands in
    let root = stands.inodes.root in
    let index : ℕ = (free.number - 1) / 8 in
    let low : index < 16 = omega (arith, is.low) in
    let points : pointer_word (v root) index ≡ free.block = sym (pointer_is (v root) index low) ∙ stands.inodes.points in
    let here : is_free_inode (inode_at (v free.block) free.place) ≡ true = ap is_free_inode is.bare in
    let place = any_in (λ p. is_free_inode (inode_at (v free.block) p)) 0 8 free.place (omega arith) (omega (arith, stands.few)) here in
    let block : has_free_at v free.block ≡ true = ap (λ (t : Bool). not t && list_any (λ p. is_free_inode (inode_at (v free.block) p)) (range_with_len 0 8)) (ne_eqb free.block 0 stands.inodes.there) ∙ place in
    missing_none v fs root (root_again v fs root stands.inodes.is_root) (any_in (λ i. has_free_at v (pointer_word (v root) i)) 0 16 index (omega arith) (omega (arith, low)) (ap (has_free_at v) points ∙ block))

-- An inode and its name

pub new_is : (content : ℕ → List ℕ) (fs mode n home place : ℕ) (bytes : List ℕ) (recorded after : Option ℕ) → Ok home ≡ inode_block_in content fs ((n - 1) / 8) → place ≡ (n - 1) % 8 → bytes ≡ new_inode mode → recorded ≡ after →
    (home, edit_at (64 * place) bytes [] [] recorded) ∷ [] ≡ new_edits content fs mode n after
new_is content fs mode n home place bytes recorded after e f all comes =
    ap (λ (m : List ℕ). (home, edit_at (64 * place) m [] [] recorded) ∷ []) all
    ∙ (ap (λ p. (home, edit_at (64 * p) (new_inode mode) [] [] recorded) ∷ []) f
    ∙ (ap (λ (o : Option ℕ). (home, edit_at (64 * ((n - 1) % 8)) (new_inode mode) [] [] o) ∷ []) comes
    ∙ ap (λ r. home_edits r (λ h. (h, edit_at (64 * ((n - 1) % 8)) (new_inode mode) [] [] after) ∷ [])) e))

module _ (T : Types) (fs d : ℕ) (name : List ℕ) (mode n : ℕ) (numbers left : Numbers) (old first new : StoreState) (one : made_of T fs (new_edits (latest old.lives) fs mode n (numbers ((n - 1) / 8))) old ≡ Ok first) (made : ℕ) (last : made ≡ first.next - 1) where
  pub names_done : left ≡ without_edit numbers ((n - 1) / 8) → act_of T fs (entered_action (latest first.lives) fs d (entry_of n name) made) first ≡ Ok new → NamesNew T fs d name mode n numbers old left new (Ok n)
  names_done kept two = (
    refl,
    ap (result_and_then (made_by T fs ((λ s. entered_action (latest s.lives) fs d (entry_of n name) (s.next - 1)) ∷ []))) one
        ∙ ap (result_and_then (made_by T fs [])) (ap (λ (k : ℕ). act_of T fs (entered_action (latest first.lives) fs d (entry_of n name) k) first) (sym last) ∙ two),
    kept,
  )

  pub names_stop : left ≡ numbers → StopsAct T fs (entered_action (latest first.lives) fs d (entry_of n name) made) first new → (fault : FfsFault) (result : Result ℕ FfsFault) → IsErrAnd result (λ other. other ≡ fault) →
      NamesNew T fs d name mode n numbers old left new result
  names_stop kept stop fault result from =
      subst (NamesNew T fs d name mode n numbers old left new) (sym (err_from_is_err_and result from).1)
      (inr (first, one, inl (subst (λ (k : ℕ). StopsAct T fs (entered_action (latest first.lives) fs d (entry_of n name) k) first new) last stop)), kept)

pub names_none : (T : Types) (fs d : ℕ) (name : List ℕ) (mode n : ℕ) (numbers left : Numbers) (old new : StoreState) → left ≡ numbers → new ≡ old → (fault : FfsFault) (result : Result ℕ FfsFault) → IsErrAnd result (λ other. other ≡ fault) →
    NamesNew T fs d name mode n numbers old left new result
names_none T fs d name mode n numbers left old new kept same fault result from =
    subst (NamesNew T fs d name mode n numbers old left new) (sym (err_from_is_err_and result from).1) (inl (stops_same T fs (Makes (new_edits (latest old.lives) fs mode n (numbers ((n - 1) / 8)))) old new same), kept)

-- A block of inodes more

module _ (T : Types) (fs : ℕ) (numbers left : Numbers) (old new : StoreState) (missing : Option (ℕ × ℕ)) (e : missing_block (latest old.lives) fs ≡ missing) where
  pub adds_done : act_of T fs (block_action missing) old ≡ Ok new → left ≡ with_last numbers new.next missing → AddsBlock {A = ℕ} T fs numbers old left new (Ok 0)
  adds_done done kept = subst (λ (m : Option (ℕ × ℕ)). (act_of T fs (block_action m) old ≡ Ok new) × (left ≡ with_last numbers new.next m)) (sym e) (done, kept)

  pub adds_stop : {A : Type 0} → StopsAct T fs (block_action missing) old new → left ≡ numbers → (fault : FfsFault) (result : Result A FfsFault) → IsErrAnd result (λ other. other ≡ fault) → AddsBlock T fs numbers old left new result
  adds_stop {A} stop kept fault result from =
      subst (AddsBlock T fs numbers old left new) (sym (err_from_is_err_and result from).1) (subst (λ (m : Option (ℕ × ℕ)). StopsAct T fs (block_action m) old new) (sym e) stop, kept)

-- nothing was begun
pub adds_none : {A : Type 0} (T : Types) (fs : ℕ) (numbers : Numbers) (old new : StoreState) → new ≡ old → (fault : FfsFault) (result : Result A FfsFault) → IsErrAnd result (λ other. other ≡ fault) → AddsBlock T fs numbers old numbers new result
adds_none {A} T fs numbers old new same fault result from =
    subst (AddsBlock T fs numbers old numbers new) (sym (err_from_is_err_and result from).1) (stops_same T fs (block_action (missing_block (latest old.lives) fs)) old new same, refl)

-- Both

pub creates_stop : (T : Types) (fs d : ℕ) (name : List ℕ) (mode n : ℕ) (numbers left : Numbers) (old new : StoreState) (fault : FfsFault) → AddsBlock {A = ℕ} T fs numbers old left new (Err fault) → (result : Result ℕ FfsFault) → IsErrAnd result (λ other. other ≡ fault) →
    CreatesInOrder T fs d name mode n numbers old left new result
creates_stop T fs d name mode n numbers left old new fault stop result from =
    let p = err_from_is_err_and result from in
    subst (CreatesInOrder T fs d name mode n numbers old left new) (sym (p.1 ∙ ap (λ (f : FfsFault). Err f) p.2)) (inl stop)

-- of the types, the file system and the numbers of before
pub creates_then : (T made : Types) (fs other d : ℕ) (name : List ℕ) (mode n number : ℕ) (numbers given left : Numbers) (old middle new : StoreState) → made ≡ T → other ≡ fs → number ≡ n → AddsBlock {A = ℕ} T fs numbers old given middle (Ok 0) → (result : Result ℕ FfsFault) →
    NamesNew made other d name mode number given middle left new result → CreatesInOrder T fs d name mode n numbers old left new result
creates_then T made fs other d name mode n number numbers given left old middle new e f g add result names = go result same
  where
    missing : Option (ℕ × ℕ)
    missing = missing_block (latest old.lives) fs

    same : NamesNew T fs d name mode n (with_last numbers middle.next missing) middle left new result
    same = subst (λ (t : Types). NamesNew t fs d name mode n (with_last numbers middle.next missing) middle left new result) e (subst (λ (x : ℕ). NamesNew made x d name mode n (with_last numbers middle.next missing) middle left new result) f
        (subst (λ (x : ℕ). NamesNew made other d name mode x (with_last numbers middle.next missing) middle left new result) g (subst (λ (a : Numbers). NamesNew made other d name mode number a middle left new result) add.1 names)))

    go : (r : Result ℕ FfsFault) → NamesNew T fs d name mode n (with_last numbers middle.next missing) middle left new r → CreatesInOrder T fs d name mode n numbers old left new r
    go (Ok x) h = (middle, add.0, h)
    go (Err fault) h = inr (middle, add.0, h)

pub new_lowest : (content : ℕ → List ℕ) (fs d : ℕ) (name : List ℕ) (n m : ℕ) → Ok n ≡ new_in content fs d name → IsLowestNumber content fs m → m ≡ n
new_lowest content fs d name n m e lowest = go (create_in content fs d name) (root_in content fs) refl e
  where
    go : (x : Result (List ℕ) FfsFault) (r : Result ℕ FfsFault) → r ≡ root_in content fs → Ok n ≡ and_then x (λ inode. and_then r (λ root. ok_or (number_in content root) NoInode)) → m ≡ n
    go (Ok inode) (Ok root) at f = let k : ◌≡◌ {A = Result ℕ FfsFault} (Ok n) (Ok m) = f ∙ ap (λ (o : Option ℕ). ok_or o NoInode) (sym (lowest root at)) in cc
    go (Ok inode) (Err fault) at f = absurd (cc f)
    go (Err fault) r at f = absurd (cc f)

pub new_refused : (content : ℕ → List ℕ) (fs d : ℕ) (name : List ℕ) (n : ℕ) (fault : FfsFault) → Err fault ≡ create_in content fs d name → Ok n ≡ new_in content fs d name → ⊥
new_refused content fs d name n fault told e =
    let k : ◌≡◌ {A = Result ℕ FfsFault} (Ok n) (Err fault) = e ∙ ap (λ (x : Result (List ℕ) FfsFault). and_then x (λ inode. and_then (root_in content fs) (λ root. ok_or (number_in content root) NoInode))) (sym told) in
    absurd (cc k)

pub not_refused : {A : Type 0} (r : Result A FfsFault) (fault : FfsFault) → Err fault ≡ r → IsOk r → ⊥
not_refused (Ok x) fault e ok = absurd (cc e)
not_refused (Err other) fault e ok = absurd (cc ok)

-- A volume

pub rooted_there : (T : Types) (fs : ℕ) (old : StoreState) → Ok true ≡ make_in (latest old.lives) fs → rooted_by T fs old ≡ Ok old
rooted_there T fs old found =
    let bare = bare_from (latest old.lives) fs found in
    ap (λ (t : Bool). if t then result_and_then (λ made. Ok made.1) (rooted_of T fs old) else Ok old) (ne_eqb (slot_now old fs).0 0 (λ z. bare.is_root.there (sym (ap (λ (p : ℕ × ℕ). p.0) bare.is_root.at) ∙ z)))

pub rooted_new : (T : Types) (fs : ℕ) (old new : StoreState) (entry : ℕ) → Ok false ≡ make_in (latest old.lives) fs → rooted_of T fs old ≡ Ok (entry, new) → rooted_by T fs old ≡ Ok new
rooted_new T fs old new entry none done =
    ap (λ (t : Bool). if t then result_and_then (λ made. Ok made.1) (rooted_of T fs old) else Ok old) (eq-eqb (slot_now old fs).0 0 (rootless_slot (latest old.lives) fs none)) ∙ ap (result_and_then (λ made. Ok made.1)) done

pub attached_order : (T : Types) (fs block : ℕ) (old second new : StoreState) → rooted_by T fs old ≡ Ok second → Ok true ≡ make_in (latest second.lives) fs → (result : Result ℕ FfsFault) →
    ((root : ℕ) → IsRoot (latest second.lives) fs root → (length (latest second.lives root) ≡ 512) × Proposed T fs root (first_pointer block) second new result) → OnOk result (top_attached T fs block old ≡ Ok new)
attached_order T fs block old second new rooted found (Err fault) puts = tt
attached_order T fs block old second new rooted found (Ok e) puts =
    let bare = bare_from (latest second.lives) fs found in
    ap (result_and_then (λ (s : StoreState). made_of T fs (top_edits (latest s.lives) fs block) s)) rooted
    ∙ (ap (λ (r : Result ℕ FfsFault). made_of T fs (home_edits r (λ root. (root, first_pointer block) ∷ [])) second) (sym (root_again (latest second.lives) fs bare.block bare.is_root))
    ∙ one_order T fs bare.block (first_pointer block) second new (Ok e) (puts bare.block bare.is_root).1)

pub made_order : (T : Types) (fs block number : ℕ) (zeroth first second new : StoreState) → init_of T zeroth fs 4 top_inodes ≡ Ok ((block, number), first) → (attached result : Result ℕ FfsFault) → result ≡ attached → OnOk attached (top_attached T fs block first ≡ Ok second) →
    OnOk result (new ≡ second) → OnOk result (made_top T fs zeroth ≡ Ok new)
made_order T fs block number zeroth first second new done (Ok x) (Ok y) is top same = ap (result_and_then (λ begun. top_attached T fs begun.0.0 begun.1)) done ∙ (top ∙ ap (λ (s : StoreState). Ok s) (sym same))
made_order T fs block number zeroth first second new done (Err fault) (Ok y) is top same = absurd (cc is)
made_order T fs block number zeroth first second new done attached (Err fault) is top same = tt

pub make_stops : {A : Type 0} (T : Types) (fs : ℕ) (old new : StoreState) (fault : FfsFault) → StopsTop T fs old new fault → (result : Result A FfsFault) → IsErrAnd result (λ other. other ≡ fault) → MakesInOrder T fs old new result
make_stops {A} T fs old new fault stop result from =
    let p = err_from_is_err_and result from in
    subst (MakesInOrder T fs old new) (sym (p.1 ∙ ap (λ (f : FfsFault). Err f) p.2)) stop
