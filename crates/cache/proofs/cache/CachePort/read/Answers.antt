use Rattle.std.proofs.Common.{[], refl}
use Rattle.port.specs.Steps.{done}
use Rattle.port.proofs.Settling.{settles_then, settles_raised}
use Rattle.port.proofs.Checking.{as_ok}
use Rattle.port.proofs.Chains.{chain_append}
use Rattle.cache_tables.specs.Showing.{shown}
use Rattle.cache_tables.specs.Rules.{model, turn, touched_by}
use Rattle.cache_tables.proofs.Reading.{hit_sees}
use Rattle.cache.proofs.Calling.{takes_as, sees_reading, sees_before, reading_before, told_above, turn_buffered, turn_hit, touched_kept, LookedAgain, turn_found, turn_begun, miss_idle, miss_absent}
use Rattle.cache.proofs.cache.CachePort.read.Goals as goal

pub returns-in-Some-clause-did : goal.returns-in-Some-clause-did
returns-in-Some-clause-did g c =
    let s = g.P.Port.state c.args.self.now.below in
    let m = model c.args.self.now.tables in
    let w = c.args.word in
    let h = c.in_ok-check_above.ensures.passed in
    as_ok _ _ _ h.below (takes_as (turn m []) _ (turn_buffered (shown s) m w c.in-Some.value c.in-Some.ensures) (record { tables = refl; below = done }))

pub invariant_of-self : goal.invariant_of-self
invariant_of-self g c =
    record { coherent = touched_kept _ (model c.args.self.now.tables) (model c.hit.new.self) c.args.word c.hit.ensures.after c.args.self.now.coherent }

pub returns-in-Some-hit-clause-value : goal.returns-in-Some-hit-clause-value
returns-in-Some-hit-clause-value g c =
    let s = g.P.Port.state c.args.self.now.below in
    let m = model c.args.self.now.tables in
    let w = c.args.word in
    let h = c.in_ok-check_above.ensures.passed in
    told_above s w _ h (sees_reading (shown s) w c.in-Some-hit.value (hit_sees (shown s) m w c.in-Some-hit.value c.args.self.now.coherent c.in-Some-hit.ensures.value))

pub returns-in-Some-hit-clause-did : goal.returns-in-Some-hit-clause-did
returns-in-Some-hit-clause-did g c =
    let s = g.P.Port.state c.args.self.now.below in
    let m = model c.args.self.now.tables in
    let w = c.args.word in
    let h = c.in_ok-check_above.ensures.passed in
    as_ok _ _ _ h.below (takes_as (turn (touched_by m w) []) _ (turn_hit (shown s) m w c.in_default.ensures c.in-Some-hit.value c.in-Some-hit.ensures.value) (record { tables = c.hit.ensures.after; below = done }))

pub invariant_of-self-2 : goal.invariant_of-self-2
invariant_of-self-2 g c =
    record { coherent = touched_kept _ (model c.finish.new.self.tables) (model c.hit-2.new.self) c.args.word c.hit-2.ensures.after c.finish.new.self.coherent }

pub returns-in-Some-hit-2-clause-value : goal.returns-in-Some-hit-2-clause-value
returns-in-Some-hit-2-clause-value g c =
    let s = g.P.Port.state c.args.self.now.below in
    let t = g.P.Port.state c.finish.new.self.below in
    let k = model c.finish.new.self.tables in
    let w = c.args.word in
    let h = c.in_ok-check_above.ensures.passed in
    let x = c.in-Some-hit-2.value in
    told_above s w _ h (sees_reading (shown s) w x (sees_before s t w x c.finish.ensures.after (hit_sees (shown t) k w x c.finish.new.self.coherent c.in-Some-hit-2.ensures.value)))

pub returns-clause-value : goal.returns-clause-value
returns-clause-value g c =
    let s = g.P.Port.state c.args.self.now.below in
    let t = g.P.Port.state c.finish.new.self.below in
    let w = c.args.word in
    let h = c.in_ok-check_above.ensures.passed in
    told_above s w c.miss.result h (reading_before s t w c.miss.result c.finish.ensures.after c.miss.ensures.value)

pub returns-clause-after : goal.returns-clause-after
returns-clause-after g c =
    let s = g.P.Port.state c.args.self.now.below in
    let t = g.P.Port.state c.finish.new.self.below in
    let u = g.P.Port.state c.miss.new.self.below in
    settles_raised s u (settles_then s t u c.finish.ensures.after c.miss.ensures.after)

pub miss-requires-clause-idle : goal.miss-requires-clause-idle
miss-requires-clause-idle g c =
    let looked : LookedAgain (g.P.Port.state c.args.self.now.below) (g.P.Port.state c.finish.new.self.below) (model c.args.self.now.tables) (model c.hit.new.self) (model c.finish.new.self.tables) (model c.hit-2.new.self) c.args.word =
    record { after = c.finish.ensures.after; first = c.hit.ensures.after; absent = c.in_default-hit.ensures.value; finishes = c.finish.ensures.did.tables; second = c.hit-2.ensures.after }
    in
    miss_idle looked c.in_default-hit-2.ensures.value

pub miss-requires-clause-absent : goal.miss-requires-clause-absent
miss-requires-clause-absent g c =
    let looked : LookedAgain (g.P.Port.state c.args.self.now.below) (g.P.Port.state c.finish.new.self.below) (model c.args.self.now.tables) (model c.hit.new.self) (model c.finish.new.self.tables) (model c.hit-2.new.self) c.args.word =
    record { after = c.finish.ensures.after; first = c.hit.ensures.after; absent = c.in_default-hit.ensures.value; finishes = c.finish.ensures.did.tables; second = c.hit-2.ensures.after }
    in
    miss_absent looked c.in_default-hit-2.ensures.value

pub returns-in-Some-hit-2-clause-did : goal.returns-in-Some-hit-2-clause-did
returns-in-Some-hit-2-clause-did g c =
    let s = g.P.Port.state c.args.self.now.below in
    let h = c.in_ok-check_above.ensures.passed in
    let looked : LookedAgain (g.P.Port.state c.args.self.now.below) (g.P.Port.state c.finish.new.self.below) (model c.args.self.now.tables) (model c.hit.new.self) (model c.finish.new.self.tables) (model c.hit-2.new.self) c.args.word =
    record { after = c.finish.ensures.after; first = c.hit.ensures.after; absent = c.in_default-hit.ensures.value; finishes = c.finish.ensures.did.tables; second = c.hit-2.ensures.after }
    in
    as_ok _ _ _ h.below (takes_as _ _ (turn_found looked c.in_default.ensures c.in-Some-hit-2.value c.in-Some-hit-2.ensures.value) (record { tables = refl; below = c.finish.ensures.did.below }))

pub returns-clause-did : goal.returns-clause-did
returns-clause-did g c =
    let s = g.P.Port.state c.args.self.now.below in
    let h = c.in_ok-check_above.ensures.passed in
    let looked : LookedAgain (g.P.Port.state c.args.self.now.below) (g.P.Port.state c.finish.new.self.below) (model c.args.self.now.tables) (model c.hit.new.self) (model c.finish.new.self.tables) (model c.hit-2.new.self) c.args.word =
    record { after = c.finish.ensures.after; first = c.hit.ensures.after; absent = c.in_default-hit.ensures.value; finishes = c.finish.ensures.did.tables; second = c.hit-2.ensures.after }
    in
    let r = c.miss.ensures in
    as_ok _ _ _ h.below (takes_as _ _ (turn_begun looked c.in_default.ensures (model c.miss.new.self.tables) c.in_default-hit-2.ensures.value r.did.tables)
    (record { tables = refl; below = chain_append c.finish.ensures.did.below r.did.below }))
