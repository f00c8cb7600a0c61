use Rattle.std.proofs.Common.{◌<◌, rules, arith}
use Rattle.joined_map.proofs.Joints.{low_write, high_write}
use Rattle.joined_map.proofs.JoinedMapPort.write.Goals as goal

pub returns-in_ok-write_through-in-None-clause-after : goal.returns-in_ok-write_through-in-None-clause-after
returns-in_ok-write_through-in-None-clause-after g c =
    let j = c.args.self.now in
    let sized = g.met.L.Port.whole j.low in
    let low : c.args.write.word < c.args.self.now.split = omega arith in
    search (rules, low_write (g.L.Port.state j.low) (g.H.Port.state j.high) c.args.write j.split)

pub returns-in_ok-shifted-in-Some-clause-after : goal.returns-in_ok-shifted-in-Some-clause-after
returns-in_ok-shifted-in-Some-clause-after g c =
    let j = c.args.self.now in
    let sized = g.met.L.Port.whole j.low in
    search (rules, high_write (g.L.Port.state j.low) (g.H.Port.state j.high) c.args.write j.split)
