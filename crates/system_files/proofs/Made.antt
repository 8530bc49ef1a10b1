-- Lists of calls that were made one after another.
use Rattle.std.proofs.Common.{◌≡◌, ℕ, Bool, true, false, List, [], ◌∷◌, ◌++◌, map, Option, Some, None, refl, sym, ◌∙◌, ap, append_assoc, inl, inr, subst}
use Rattle.std.specs.Prelude.{Result, Ok, Err, IfOk, IfSome, IsErrAnd, OnErr, is_ok}
use Rattle.std.specs.List.{AllByRecursion}
use Rattle.system_files.specs.Calls.{Call, Calls, Compare, Goes, IsLeft, IsLocked, IsQuiet, Lock, Looked, Make, Makes, MakesNone, Remove, Replaces, Step, SyncFolder, failed, missed, plan, well, with_calls}
use Rattle.system_files.specs.Naming.{IsBeside}

pub joined_calls : (calls : Calls) (xs ys : List Call) → with_calls (with_calls calls xs) ys ≡ with_calls calls (xs ++ ys)
joined_calls None xs ys = refl
joined_calls (Some made) xs ys = ap Some (append_assoc made xs ys)

pub no_calls : (calls : Calls) → calls ≡ with_calls calls []
no_calls None = refl
no_calls (Some made) = ap Some (sym (append_nil made))
  where
    append_nil : (xs : List Call) → xs ++ [] ≡ xs
    append_nil [] = refl
    append_nil (x ∷ xs) = ap (λ ys. x ∷ ys) (append_nil xs)

-- a list of calls after another one
pub calls_after : (old mid new : Calls) (xs ys : List Call) → mid ≡ with_calls old xs → new ≡ with_calls mid ys → new ≡ with_calls old (xs ++ ys)
calls_after old mid new xs ys first second = second ∙ ap (λ calls. with_calls calls ys) first ∙ joined_calls old xs ys

map_append : (xs ys : List Step) → map well (xs ++ ys) ≡ map well xs ++ map well ys
map_append [] ys = refl
map_append (x ∷ xs) ys = ap (λ zs. well x ∷ zs) (map_append xs ys)

-- one call
pub goes_once : {A E : Type 0} (step : Step) (old new : Calls) (r : Result A E) → new ≡ with_calls old ((step, is_ok r) ∷ []) → Goes (step ∷ []) old new r
goes_once step old new (Ok done) is = is
goes_once step old new (Err fault) is = (failed step ∷ [], record { before = []; step = step; after = []; split = refl; calls = refl }, is)

-- steps that go on where others ended
pub goes_on : {A E : Type 0} (xs ys : List Step) (old mid new : Calls) (r : Result A E) → mid ≡ with_calls old (map well xs) → Goes ys mid new r → Goes (xs ++ ys) old new r
goes_on xs ys old mid new (Ok done) first second =
    calls_after old mid new (map well xs) (map well ys) first second ∙ ap (with_calls old) (sym (map_append xs ys))
goes_on xs ys old mid new (Err fault) first (made, cut, is) = (
  map well xs ++ made,
  record {
    before = xs ++ cut.before;
    step = cut.step;
    after = cut.after;
    split = ap (λ zs. xs ++ zs) cut.split ∙ sym (append_assoc xs cut.before (cut.step ∷ cut.after));
    calls = ap (λ zs. map well xs ++ zs) cut.calls ∙ sym (append_assoc (map well xs) (map well cut.before) (failed cut.step ∷ [])) ∙ ap (λ zs. zs ++ failed cut.step ∷ []) (sym (map_append xs cut.before));
  },
  calls_after old mid new (map well xs) made first is,
)

-- more steps would have followed, where they were cut
pub goes_short : {A B E F : Type 0} (xs ys : List Step) (old new : Calls) (r : Result A E) (s : Result B F) (e : E) (Q : F → Type 0) → r ≡ Err e → IsErrAnd s Q → Goes xs old new r →
    Goes (xs ++ ys) old new s
goes_short xs ys old new (Ok done) s e Q wrong err goes = cc
goes_short xs ys old new (Err fault) (Ok done) e Q is wrong goes = absurd wrong
goes_short xs ys old new (Err fault) (Err other) e Q is err (made, cut, calls) = (
  made,
  record {
    before = cut.before;
    step = cut.step;
    after = cut.after ++ ys;
    split = ap (λ zs. zs ++ ys) cut.split ∙ append_assoc cut.before (cut.step ∷ cut.after) ys;
    calls = cut.calls;
  },
  calls,
)

-- they went well
pub goes_well : {A E : Type 0} (xs : List Step) (old new : Calls) (r : Result A E) (done : A) → r ≡ Ok done → Goes xs old new r → new ≡ with_calls old (map well xs)
goes_well xs old new (Ok done) d is goes = goes
goes_well xs old new (Err fault) d wrong goes = cc

-- New files

missed_append : (xs ys : List (List ℕ)) → missed (xs ++ ys) ≡ missed xs ++ missed ys
missed_append [] ys = refl
missed_append (x ∷ xs) ys = ap (λ zs. failed (Make x) ∷ zs) (missed_append xs ys)

pub misses_one : (old mid new : Calls) (name : List ℕ) (done : Bool) → done ≡ false → MakesNone old mid → new ≡ with_calls mid ((Make name, done) ∷ []) → MakesNone old new
misses_one old mid new name done is (names, before) call = (
  names ++ name ∷ [],
  calls_after old mid new (missed names) (failed (Make name) ∷ []) before (call ∙ ap (λ d. with_calls mid ((Make name, d) ∷ [])) is)
      ∙ ap (with_calls old) (sym (missed_append names (name ∷ []))),
)

pub makes_one : (old mid new : Calls) (path name : List ℕ) (number : ℕ) (done : Bool) → done ≡ true → MakesNone old mid → IsBeside path number name →
    new ≡ with_calls mid ((Make name, done) ∷ []) → Makes path name old new
makes_one old mid new path name number done is (names, before) beside call = (
  missed names ++ well (Make name) ∷ [],
  record { number = number; named = beside; names = names; calls = refl },
  calls_after old mid new (missed names) (well (Make name) ∷ []) before (call ∙ ap (λ d. with_calls mid ((Make name, d) ∷ [])) is),
)

-- A replacement

pub replaced : {A E : Type 0} (keeps : Bool) (bytes path beside : List ℕ) (old made filled new : Calls) (r : Result A E) → Makes path beside old made →
    filled ≡ with_calls made (map well (plan keeps bytes beside path)) → new ≡ with_calls filled ((SyncFolder, is_ok r) ∷ []) → Replaces keeps bytes path old new r
replaced keeps bytes path beside old made filled new (Ok done) (start, is, calls) fills syncs = (
  start ++ (map well (plan keeps bytes beside path) ++ well SyncFolder ∷ []),
  record { beside = beside; start = start; is_made = is; calls = refl },
  calls_after old made new start (map well (plan keeps bytes beside path) ++ well SyncFolder ∷ []) calls
      (calls_after made filled new (map well (plan keeps bytes beside path)) (well SyncFolder ∷ []) fills syncs),
)
replaced keeps bytes path beside old made filled new (Err fault) (start, is, calls) fills syncs = (
  start ++ (map well (plan keeps bytes beside path) ++ failed SyncFolder ∷ []),
  inr (inr (record { beside = beside; start = start; is_made = is; calls = refl })),
  calls_after old made new start (map well (plan keeps bytes beside path) ++ failed SyncFolder ∷ []) calls
      (calls_after made filled new (map well (plan keeps bytes beside path)) (failed SyncFolder ∷ []) fills syncs),
)

-- what was made is removed
pub left_removed : {A E : Type 0} (keeps : Bool) (bytes path beside : List ℕ) (old made cut new : Calls) (r : Result A E) (fault : E) →
    Makes path beside old made → r ≡ Err fault → Goes (plan keeps bytes beside path) made cut r → new ≡ with_calls cut (well (Remove beside) ∷ []) →
    (all : List Call) × IsLeft keeps bytes path all × (new ≡ with_calls old all)
left_removed keeps bytes path beside old made cut new (Ok done) fault makes wrong goes removes = cc
left_removed keeps bytes path beside old made cut new (Err other) fault (start, is, calls) same (middle, is_cut, fills) removes = (
  start ++ (middle ++ well (Remove beside) ∷ []),
  inr (inl (record { beside = beside; start = start; middle = middle; is_made = is; is_cut = is_cut; calls = refl })),
  calls_after old made new start (middle ++ well (Remove beside) ∷ []) calls (calls_after made cut new middle (well (Remove beside) ∷ []) fills removes),
)

pub on_err : {A E : Type 0} (P : Type 0) (r : Result A E) → P → OnErr r P
on_err P (Ok done) p = tt
on_err P (Err fault) p = p

-- Calls that change nothing

pub looked_none : (calls : Calls) → Looked calls calls
looked_none calls = record { quiet = []; all = tt; calls = no_calls calls }

pub looked_same : (old new : Calls) → new ≡ old → Looked old new
looked_same old new is = subst (Looked old) (sym is) (looked_none old)

all_quiet : (xs ys : List Call) → AllByRecursion IsQuiet xs → AllByRecursion IsQuiet ys → AllByRecursion IsQuiet (xs ++ ys)
all_quiet [] ys p q = q
all_quiet (x ∷ xs) ys (p, ps) q = (p, all_quiet xs ys ps q)

pub looked_on : (old mid new : Calls) → Looked old mid → Looked mid new → Looked old new
looked_on old mid new first second = record {
  quiet = first.quiet ++ second.quiet;
  all = all_quiet first.quiet second.quiet first.all second.all;
  calls = calls_after old mid new first.quiet second.quiet first.calls second.calls;
}

pub looked_once : (old new : Calls) (call : Call) → IsQuiet call → new ≡ with_calls old (call ∷ []) → Looked old new
looked_once old new call quiet is = record { quiet = call ∷ []; all = (quiet, tt); calls = is }

pub locked_after : (old mid new : Calls) (path : List ℕ) → Looked old mid → IsLocked path mid new → IsLocked path old new
locked_after old mid new path first second = record {
  quiet = first.quiet ++ second.quiet;
  all = all_quiet first.quiet second.quiet first.all second.all;
  calls = calls_after old mid new first.quiet (second.quiet ++ well Lock ∷ well (Compare path) ∷ []) first.calls second.calls
      ∙ ap (with_calls old) (sym (append_assoc first.quiet second.quiet (well Lock ∷ well (Compare path) ∷ [])));
}

pub value_in : {T E : Type 0} (P : T → Type 0) (r : Result (Option T) E) (t : T) → r ≡ Ok (Some t) → IfOk r (λ found. IfSome found P) → P t
value_in P r t is holds = subst (λ s. IfOk s (λ found. IfSome found P)) is holds
