use Rattle.std.proofs.Common.{◌≡◌, ℕ, ◌+◌, ◌<◌, None, Some, Err, ap, arith, inr, subst, sym}
use Rattle.tree_lines.proofs.NamesRead.{GoOn, all_passed, fails, few_read, found_so, no_more_read, one_read, read_so, reads_some}
use Rattle.tree_lines.proofs.trees.read_names.Goals as goal

pub returns-in-Ok-None : goal.returns-in-Ok-None
returns-in-Ok-None g c =
    let session = c.args.session.now in
    let state = g.S.Store.state_of session.store in
    let from = c.loop-bucket.from in
    let read = found_so state (g.S.Store.state_of c.store.result.now) session.volume c.volume.result.now c.args.folder from None c.in-Ok-None.field-0
    (ap g.S.Store.state_of c.store.ensures) c.volume.ensures c.in-Ok-None.field-0-is c.in-Ok-None.ensures in
    no_more_read state session.volume c.args.folder from c.loop-bucket.names.items c.loop-bucket.invariant.goes read

pub returns-in-Err : goal.returns-in-Err
returns-in-Err g c =
    let session = c.args.session.now in
    let state = g.S.Store.state_of session.store in
    let from = c.loop-bucket.from in
    let fault = c.in-Err.fault in
    let read = read_so state (g.S.Store.state_of c.store.result.now) session.volume c.volume.result.now c.args.folder from (Err fault)
    (ap g.S.Store.state_of c.store.ensures) c.volume.ensures c.in-Err.ensures in
    inr (fault, fails state session.volume c.args.folder from fault read, c.reason_of.ensures)

pub loop-bucket-preserved : goal.loop-bucket-preserved
loop-bucket-preserved g c =
    let session = c.args.session.now in
    let state = g.S.Store.state_of session.store in
    let before = c.loop-bucket in
    let bucket = c.in-Ok-Some.bucket in
    let read = found_so state (g.S.Store.state_of c.store.result.now) session.volume c.volume.result.now c.args.folder before.from (Some bucket)
    c.in-Ok-Some.field-0 (ap g.S.Store.state_of c.store.ensures) c.volume.ensures c.in-Ok-Some.field-0-is c.in-Ok-Some.ensures in
    let few = few_read state session.volume c.args.folder before.from bucket read in
    let passed = before.invariant.passed in
    let from_is : c.saturating_add-from.result ≡ bucket.number + 1 = omega (arith, few.1, c.saturating_add-from.ensures) in
    let some = reads_some state session.volume c.args.folder before.from bucket read in
    let goes = one_read state session.volume c.args.folder before.from before.names.items c.push_names.new.names.items bucket before.invariant.goes read
    c.in_ok-push_names-in-Ok-Some.ensures in
    record {
      passed = omega (arith, few.0, passed, from_is);
      there = λ more. (some.0, some.1);
      goes = subst (λ (n : ℕ). GoOn state session.volume c.args.folder n c.push_names.new.names.items) (sym from_is) goes;
    }

pub returns : goal.returns
returns g c =
    let session = c.args.session.now in
    let state = g.S.Store.state_of session.store in
    let before = c.loop-bucket in
    let passed = before.invariant.passed in
    let some : 0 < before._bucket = omega (arith, c.loop-bucket-test.false) in
    all_passed state session.volume c.args.folder before.from before.names.items (omega (arith, passed, c.loop-bucket-test.false)) (before.invariant.there some)
    before.invariant.goes
