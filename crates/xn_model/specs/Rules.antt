-- What holds in every world that a run reaches.
--     IsConsistent T state           of a state alone
--     ArePlaced content lives        of what is read of a disk, against the lives
--     Holds w                        both, of a world, and what its open writes are
--     Agrees T count content lives   each reached block of these contents holds a state of its life, and has one owner
use Rattle.std.specs.Prelude.{◌≡◌, ℕ, ◌<◌, ◌≤◌, ◌≢◌, List, [], ◌∷◌, ◌++◌, length, Option, Some, None, Contains, IsTrue, ◌⊎◌, ⊤, option_to_list, false}
use Rattle.std.specs.List.{last_or}
use Rattle.xn_model.specs.Types.{Types, fits}
use Rattle.xn_model.specs.Root.{HasBuiltIns, has_type, KeepsPointers, marked, slot, templates_of, owned_by_root}
use Rattle.xn_model.specs.Languages.{Language, Extends}
use Rattle.xn_model.specs.Images.{block_of, Reach, HasOneOwner, IsDiskSize}
use Rattle.xn_model.specs.Lives.{BlockState, Status, Fresh, Owned, Dropped, Life, Lives, StoreState, life_at, states, carried, newest, is_dropped, chain_end}
use Rattle.xn_model.specs.Lives.{root_on_disk}
use Rattle.xn_model.specs.Calls.{types_of}
use Rattle.xn_model.specs.Flights.{flight_of}
use Rattle.xn_model.specs.Worlds.{World, MayLeave, given_at, types_now}

-- The image against the lives

-- Block c is alive, with a life of which P holds.
pub record At (lives : Lives) (c : ℕ) (P : Life → Type 0) : Type 0 where
  pub life : Life
  pub alive : life_at lives c ≡ Some life
  pub holds : P life

-- Block c is alive with type u, and these contents hold one of its states: the durable one, or a pending one that the begun write carries.
abbrev pub HoldsState : (content : ℕ → List ℕ) (lives : Lives) (c u : ℕ) → Type 0
HoldsState content lives c u =
    At lives c (λ life. (life.ty ≡ u) × (s : BlockState) × Contains (option_to_list life.durable ++ carried life) s × (content c ≡ s.bytes))

-- Contents agree with lives.
pub record Agrees (T : Types) (count : ℕ) (content : ℕ → List ℕ) (lives : Lives) : Type 0 where
  -- each reached block holds a state of its life
  pub states : (c u : ℕ) → Reach T count content c u → HoldsState content lives c u
  -- and, but for block 0, is named by one block at one place
  pub owner : (c u : ℕ) → Reach T count content c u → c ≢ 0 → HasOneOwner T count content c

-- Single blocks

-- By the status, block b owns the block, or has dropped it.
abbrev pub IsBy : ℕ → Status → Type 0
IsBy b Fresh = ⊥
IsBy b (Owned a) = a ≡ b
IsBy b (Dropped a) = a ≡ b

-- Block c is alive with type u, and block b owns it or has dropped it.
abbrev pub BelongsTo : (lives : Lives) (b c u : ℕ) → Type 0
BelongsTo lives b c u = At lives c (λ life. (life.ty ≡ u) × IsBy b life.status)

-- Block c is alive and has a state on the disk.
abbrev pub IsOnDisk : (lives : Lives) (c : ℕ) → Type 0
IsOnDisk lives c = At lives c (λ life. (s : BlockState) × (life.durable ≡ Some s))

-- Block c is alive, and of this file system or, with None, of none.
abbrev pub IsInFileSystem : (lives : Lives) (fs : Option ℕ) (c : ℕ) → Type 0
IsInFileSystem lives fs c = At lives c (λ life. life.fs ≡ fs)

-- Block c is a template: of no file system, of type 1, with one state, on the disk or pending, whose bytes are a template's.
abbrev pub IsTemplate : (T : Types) (lives : Lives) (c : ℕ) → Type 0
IsTemplate T lives c = At lives c (λ life. (life.fs ≡ None) × (life.ty ≡ 1) × (s : BlockState) × (states life ≡ s ∷ []) × IsTrue (T.template s.bytes))

-- Block b has dropped block c, and that is not on the disk yet.
abbrev pub IsDroppedBy : (lives : Lives) (b c : ℕ) → Type 0
IsDroppedBy lives b c = At lives c (λ life. life.status ≡ Dropped b)

-- Block b owns block c.
abbrev pub IsOwnedBy : (lives : Lives) (b c : ℕ) → Type 0
IsOwnedBy lives b c = At lives c (λ life. life.status ≡ Owned b)

-- Block c is alive, and never had an owner.
abbrev pub IsFreshBlock : (lives : Lives) (c : ℕ) → Type 0
IsFreshBlock lives c = At lives c (λ life. life.status ≡ Fresh)

-- Block c is alive with nothing pending.
abbrev pub IsAtRest : (lives : Lives) (c : ℕ) → Type 0
IsAtRest lives c = At lives c (λ life. life.pending ≡ [])

-- Block c is alive with a state on the disk, or with a pending one whose number is below n.
abbrev pub IsOlder : (lives : Lives) (c n : ℕ) → Type 0
IsOlder lives c n = At lives c (λ life. ((s : BlockState) × (life.durable ≡ Some s)) ⊎ ((t : BlockState) × Contains life.pending t × (t.entry < n)))

-- Block 0 has type u on the disk, or in a pending state whose number is below n.
abbrev pub IsOlderType : (lives : Lives) (u n : ℕ) → Type 0
IsOlderType lives u n =
    At lives 0 (λ life. ((s : BlockState) × (life.durable ≡ Some s) × IsTrue (has_type s.bytes u)) ⊎
    ((t : BlockState) × Contains life.pending t × (t.entry < n) × IsTrue (has_type t.bytes u)))

-- What the states of a life name

-- Each state of block 0 keeps the catalogue's pointers, where they are not 0, of the one before.
abbrev pub PointersStay : List BlockState → Type 0
PointersStay [] = ⊤
PointersStay (s ∷ []) = ⊤
PointersStay (s ∷ t ∷ states) = KeepsPointers s.bytes t.bytes × PointersStay (t ∷ states)

-- Block 0's life.
pub record IsRootLife (T : Types) (lives : Lives) : Type 0 where
  -- it is of type 0, of no file system, and nobody's
  pub life : Life
  pub alive : life_at lives 0 ≡ Some life
  pub ty : life.ty ≡ 0
  pub nobody : life.fs ≡ None
  pub unowned : life.status ≡ Fresh
  -- its durable state
  pub state : BlockState
  pub durable : life.durable ≡ Some state
  -- each of its states has the mark and the count of blocks
  pub mark : (s : BlockState) → Contains (states life) s → IsTrue (marked (length lives) s.bytes)
  -- each names the templates that the one before it names
  pub pointers : PointersStay (states life)
  -- each is a block long
  pub long : (s : BlockState) → Contains (states life) s → length s.bytes ≡ 512
  -- what the catalogue names is a template
  pub templates : (s : BlockState) (c u : ℕ) → Contains (states life) s → Contains (templates_of s.bytes) (c, u) → IsTemplate T lives c
  -- a state has the types of the blocks that it names, and the newest one has all types that there are
  pub types : (s : BlockState) (c u : ℕ) → Contains (states life) s → Contains (owned_by_root s.bytes) (c, u) → IsTrue (has_type s.bytes u)
  pub all_types : (s : BlockState) (t : ℕ) → newest life ≡ Some s → IsTrue (T.installed t) → IsTrue (has_type s.bytes t)
  -- what root slot i names is of file system i
  pub slots : (s : BlockState) (i c : ℕ) → Contains (states life) s → i < 32 → (slot s.bytes i).0 ≡ c → c ≢ 0 → IsInFileSystem lives (Some i) c

-- Each state has a larger entry number than the one before.
abbrev pub Rises : List BlockState → Type 0
Rises [] = ⊤
Rises (s ∷ []) = ⊤
Rises (s ∷ t ∷ states) = (s.entry < t.entry) × Rises (t ∷ states)

-- What the states of block b's life say.
pub record IsSoundLife (T : Types) (lives : Lives) (b : ℕ) (l : Life) : Type 0 where
  -- each fits the type
  pub fit : (s : BlockState) → Contains (states l) s → IsTrue (fits T l.ty s.bytes)
  -- what a state names is alive with that type, and this block's alone
  pub named : (s : BlockState) (c u : ℕ) → Contains (states l) s → Contains (T.owned l.ty s.bytes) (c, u) → BelongsTo lives b c u
  -- what a state names is of this life's file system, unless this is block 0
  pub same_system : (s : BlockState) (c u : ℕ) → b ≢ 0 → Contains (states l) s → Contains (T.owned l.ty s.bytes) (c, u) → IsInFileSystem lives l.fs c
  -- what the durable state or a begun one names has a state on the disk
  pub ready : (s : BlockState) (c u : ℕ) → Contains (option_to_list l.durable ++ carried l) s → Contains (T.owned l.ty s.bytes) (c, u) → IsOnDisk lives c
  -- and its type stands in block 0 on the disk, unless this is block 0
  pub typed : (s : BlockState) (c u : ℕ) → b ≢ 0 → Contains (option_to_list l.durable ++ carried l) s → Contains (T.owned l.ty s.bytes) (c, u) →
      IsTrue (has_type (root_on_disk lives) u)
  -- entry numbers rise
  pub rising : Rises (states l)

-- What the states of all lives say.
pub record AreSoundLives (T : Types) (lives : Lives) : Type 0 where
  -- block 0's
  pub root : IsRootLife T lives
  -- and each block's
  pub each : (b : ℕ) (l : Life) → life_at lives b ≡ Some l → IsSoundLife T lives b l

-- How the states of a life follow each other

-- No state of these names block c.
abbrev pub NoneNames : Types → ℕ → ℕ → List BlockState → Type 0
NoneNames T t c states = (s : BlockState) (u : ℕ) → Contains states s → Contains (T.owned t s.bytes) (c, u) → ⊥

-- No state of these drops block c.
abbrev pub NoneDrops : ℕ → List BlockState → Type 0
NoneDrops c states = (s : BlockState) → Contains states s → Contains s.drops c → ⊥

-- What a state drops is named neither by it nor by a later one, and dropped by no later one.
abbrev pub StaysDropped : Types → ℕ → List BlockState → Type 0
StaysDropped T t [] = ⊤
StaysDropped T t (s ∷ states) = ((c : ℕ) → Contains s.drops c → NoneNames T t c (s ∷ states) × NoneDrops c states) × StaysDropped T t states

-- The state, if there is one, names this block with this type.
abbrev pub NamedIn : Types → ℕ → Option BlockState → ℕ × ℕ → Type 0
NamedIn T t None p = ⊥
NamedIn T t (Some s) p = Contains (T.owned t s.bytes) p

-- Each state names no more than the one before it and what it adds.
abbrev pub Grows : Types → ℕ → Option BlockState → List BlockState → Type 0
Grows T t before [] = ⊤
Grows T t before (s ∷ states) = ((c u : ℕ) → Contains (T.owned t s.bytes) (c, u) → NamedIn T t before (c, u) ⊎ Contains s.adds (c, u)) ×
    Grows T t (Some s) states

-- A begun write carries at least one pending state, and no more than there are.
abbrev pub IsCount : Option ℕ → ℕ → Type 0
IsCount None n = ⊤
IsCount (Some k) n = (1 ≤ k) × (k ≤ n)

-- The state adds, drops and waits for nothing.
pub record IsPlain (s : BlockState) : Type 0 where
  pub adds : s.adds ≡ []
  pub drops : s.drops ≡ []
  pub after : s.after ≡ None

-- Where no state is on the disk, the first pending one is plain.
abbrev pub StartsPlain : Option BlockState → List BlockState → Type 0
StartsPlain None [] = ⊤
StartsPlain None (s ∷ states) = IsPlain s
StartsPlain (Some durable) states = ⊤

-- How block b's life fits the other lives.
pub record IsLinkedLife (T : Types) (lives : Lives) (b : ℕ) (l : Life) : Type 0 where
  -- it has a newest state
  pub last : BlockState
  pub is_last : newest l ≡ Some last
  -- what that names, this block owns
  pub owned : (c u : ℕ) → NamedIn T l.ty (newest l) (c, u) → IsOwnedBy lives b c
  -- there is such a type, and type 0 is block 0's alone
  pub installed : IsTrue (T.installed l.ty)
  pub root_alone : l.ty ≡ 0 → b ≡ 0
  -- a life that is not on the disk yet starts with a plain state
  pub start : StartsPlain l.durable l.pending
  -- a state names no more than the one before it and what it adds
  pub grows : Grows T l.ty l.durable l.pending
  -- what a pending state drops has the status Dropped by this block
  pub dropped : (s : BlockState) (c : ℕ) → Contains l.pending s → Contains s.drops c → IsDroppedBy lives b c
  -- what a pending state drops stays dropped
  pub gone : StaysDropped T l.ty l.pending
  -- a begun write carries some of the pending states
  pub flight : IsCount l.begun (length l.pending)
  -- what a begun write drops has nothing pending
  pub resting : (s : BlockState) (c : ℕ) → Contains (carried l) s → Contains s.drops c → IsAtRest lives c

-- What the pending states of all lives wait for

-- A pending state waits for older ones only, so no wait is for ever.
pub record WaitsForOlder (T : Types) (lives : Lives) : Type 0 where
  -- what a state adds it names, and that has a state on the disk or an older pending one
  pub adds : (b : ℕ) (l : Life) (s : BlockState) (c u : ℕ) → life_at lives b ≡ Some l → Contains l.pending s → Contains s.adds (c, u) →
      Contains (T.owned l.ty s.bytes) (c, u) × IsOlder lives c s.entry
  -- and its type stands in block 0 on the disk or in an older pending state
  pub types : (b : ℕ) (l : Life) (s : BlockState) (c u : ℕ) → life_at lives b ≡ Some l → Contains l.pending s → Contains s.adds (c, u) →
      IsOlderType lives u s.entry
  -- what a state drops has older pending states only
  pub drops : (b : ℕ) (l : Life) (s : BlockState) (c : ℕ) (m : Life) (t : BlockState) → life_at lives b ≡ Some l → Contains l.pending s → Contains s.drops c →
      life_at lives c ≡ Some m → Contains m.pending t → t.entry < s.entry
  -- a state comes after an older one
  pub after : (b : ℕ) (l : Life) (s : BlockState) (n : ℕ) → life_at lives b ≡ Some l → Contains l.pending s → s.after ≡ Some n → n < s.entry
  -- no block is its own owner
  pub apart : (b : ℕ) (l : Life) → life_at lives b ≡ Some l → IsBy b l.status → ⊥

-- What entry numbers say of pending states.
pub record AreOrdered (lives : Lives) : Type 0 where
  -- an entry number is pending at most once: at one block, as one state
  pub pending_once : (b c : ℕ) (l m : Life) (s t : BlockState) → life_at lives b ≡ Some l → life_at lives c ≡ Some m → Contains l.pending s →
      Contains m.pending t →
      s.entry ≡ t.entry → (b ≡ c) × (s ≡ t)
  -- what a begun state comes after is pending nowhere, or begun in the same block
  pub begun_together : (b : ℕ) (l : Life) (s : BlockState) (n c : ℕ) (m : Life) (t : BlockState) → life_at lives b ≡ Some l → Contains (carried l) s →
      s.after ≡ Some n →
      life_at lives c ≡ Some m → Contains m.pending t → t.entry ≡ n → (c ≡ b) × Contains (carried l) t

-- What a status says

-- Block a is alive, and its newest state names block c with type u.
abbrev pub IsNamer : (T : Types) (lives : Lives) (a c u : ℕ) → Type 0
IsNamer T lives a c u = At lives a (λ life. NamedIn T life.ty (newest life) (c, u))

-- The statuses agree with the newest states.
pub record HasExactStatuses (T : Types) (lives : Lives) : Type 0 where
  -- an owned block is named by its owner's newest state
  pub owned : (b : ℕ) (l : Life) (a : ℕ) → life_at lives b ≡ Some l → l.status ≡ Owned a → IsNamer T lives a b l.ty
  -- the newest state of a dropped block names nothing
  pub emptied : (b : ℕ) (l : Life) (a : ℕ) (p : ℕ × ℕ) → life_at lives b ≡ Some l → l.status ≡ Dropped a → NamedIn T l.ty (newest l) p → ⊥

-- The chain of owners of each block that is not dropped ends at a fresh block. Block 0 is one.
abbrev pub ChainsEnd : Lives → Type 0
ChainsEnd lives = (b : ℕ) (l : Life) → life_at lives b ≡ Some l → is_dropped l.status ≡ false → IsFreshBlock lives (chain_end lives b)

-- All of it, of a state.
pub record IsConsistent (T : Types) (state : StoreState) : Type 0 where
  -- the types have the built-in ones among them
  pub built_ins : HasBuiltIns T
  -- a disk may have so many blocks
  pub size : IsDiskSize (length state.lives)
  -- what the states of each life name
  pub lives_sound : AreSoundLives T state.lives
  -- how each life fits the others
  pub linked : (b : ℕ) (l : Life) → life_at state.lives b ≡ Some l → IsLinkedLife T state.lives b l
  -- what pending states wait for
  pub waits : WaitsForOlder T state.lives
  -- the order of entry numbers
  pub order : AreOrdered state.lives
  -- what the statuses say
  pub statuses : HasExactStatuses T state.lives
  -- owners of owners end
  pub chains : ChainsEnd state.lives
  -- each entry number is below the next one
  pub numbers : (b : ℕ) (l : Life) (s : BlockState) → life_at state.lives b ≡ Some l → Contains (states l) s → s.entry < state.next

-- No write is begun.
abbrev pub IsIdle : Lives → Type 0
IsIdle lives = (b : ℕ) (l : Life) → life_at lives b ≡ Some l → l.begun ≡ None

-- What a disk holds

-- The block holds its durable state s, or the last one that the begun write carries.
abbrev pub IsHeldOnDisk : (ℕ → List ℕ) → ℕ → Life → BlockState → Type 0
IsHeldOnDisk content b l s = (content b ≡ s.bytes) ⊎ ((t : BlockState) × (last_or None (carried l) ≡ Some t) × (content b ≡ t.bytes))

-- So it is with each block that has a durable state.
abbrev pub ArePlaced : (ℕ → List ℕ) → Lives → Type 0
ArePlaced content lives = (b : ℕ) (l : Life) (s : BlockState) → life_at lives b ≡ Some l → l.durable ≡ Some s → IsHeldOnDisk content b l s

-- The rules of a world.
pub record Holds (w : World) : Type 0 where
  -- the state is consistent
  pub state : IsConsistent (types_now w) w.state
  -- the disk has a block for each place of the lives
  pub count : length w.image ≡ length w.state.lives
  pub settled_count : length w.settled ≡ length w.state.lives
  pub given_count : length w.given ≡ length w.state.lives
  -- of each block with a durable state that or the begun one is settled
  pub placed : ArePlaced (block_of w.settled) w.state.lives
  -- the newest bytes are settled, or those of an open write
  pub newest : MayLeave w w.image
  -- a write is open only where one is under way, and was given its bytes
  pub unsynced : (b : ℕ) (bytes : List ℕ) → given_at w.given b ≡ Some bytes → (k : ℕ) × (flight_of (life_at w.state.lives b) ≡ Some (k, bytes))

-- The types that block 0 has on the disk it has there still.
abbrev pub KeepsTypesThere : Lives → Lives → Type 0
KeepsTypesThere old new = (t : ℕ) → IsTrue (has_type (root_on_disk old) t) → IsTrue (has_type (root_on_disk new) t)

-- A type that there is and that block 0 has on the disk is there after it, and means the same.
pub record IsKeptType (w w' : World) (t : ℕ) : Type 0 where
  pub there : IsTrue (has_type (root_on_disk w'.state.lives) t)
  pub installed : IsTrue ((types_now w').installed t)
  pub owned : (types_now w').owned t ≡ (types_now w).owned t
  pub size : (types_now w').size t ≡ (types_now w).size t

abbrev pub KeepsType : World → World → ℕ → Type 0
KeepsType w w' t = IsTrue (has_type (root_on_disk w.state.lives) t) → IsTrue ((types_now w).installed t) → IsKeptType w w' t

-- What a call that writes no block and installs no template leaves.
pub record Keeps (T : Types) (old new : StoreState) : Type 0 where
  -- the state is consistent
  pub consistent : IsConsistent T new
  -- the types are the same
  pub types : (L : Language) → types_of L new.lives ≡ types_of L old.lives
  pub there : KeepsTypesThere old.lives new.lives
  -- there are as many blocks
  pub count : length new.lives ≡ length old.lives
  -- a disk that fitted the lives fits them still
  pub placed : (content : ℕ → List ℕ) → ArePlaced content old.lives → ArePlaced content new.lives

-- What the installation of a template leaves, in a language.
pub record Installs (L : Language) (old new : StoreState) : Type 0 where
  -- the state is consistent under its new types
  pub consistent : IsConsistent (types_of L new.lives) new
  -- which are the old ones and more
  pub types : Extends (types_of L old.lives) (types_of L new.lives)
  pub there : KeepsTypesThere old.lives new.lives
  -- there are as many blocks
  pub count : length new.lives ≡ length old.lives
  -- a disk that fitted the lives fits them still
  pub placed : (content : ℕ → List ℕ) → ArePlaced content old.lives → ArePlaced content new.lives
