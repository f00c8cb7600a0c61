use Rattle.std.proofs.Common.{rules, sym}
use Rattle.joined_map.proofs.Joints.{none_left, facts_left}
use Rattle.joined_map.proofs.JoinedMapPort.read.Goals as goal

pub invariant_of-self-clause-still : goal.invariant_of-self-clause-still
invariant_of-self-clause-still g c = search (rules, none_left)

pub invariant_of-self-clause-parted : goal.invariant_of-self-clause-parted
invariant_of-self-clause-parted g c =
    let same = facts_left (g.L.Port.state c.args.self.now.low) (g.L.Port.state c.read.new.self) (search rules) (search rules) in
    search (rules, same)

pub invariant_of-self-clause-sized : goal.invariant_of-self-clause-sized
invariant_of-self-clause-sized g c =
    let same = facts_left (g.L.Port.state c.args.self.now.low) (g.L.Port.state c.read.new.self) (search rules) (search rules) in
    search (rules, same)

pub invariant_of-self-clause-leveled : goal.invariant_of-self-clause-leveled
invariant_of-self-clause-leveled g c =
    let same = facts_left (g.L.Port.state c.args.self.now.low) (g.L.Port.state c.read.new.self) (search rules) (search rules) in
    search (rules, same)

pub invariant_of-self-in-Some : goal.invariant_of-self-in-Some
invariant_of-self-in-Some g c =
    let j = c.args.self.now in
    let same = facts_left (g.H.Port.state j.high) (g.H.Port.state c.read-in-Some.new.self) (search rules) (search rules) in
    search (rules, none_left, sym same)
