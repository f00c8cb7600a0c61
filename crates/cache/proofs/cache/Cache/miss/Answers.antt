use Rattle.std.proofs.Common.{Ok, Err, refl}
use Rattle.cache_tables.specs.Rules.{model}
use Rattle.cache_tables.proofs.Fetching.{read_there, one_read}
use Rattle.cache_tables.proofs.Reading.{miss_kept, miss_err, miss_pass, miss_fill}
use Rattle.cache.proofs.cache.Cache.miss.Goals as goal

pub invariant_of-self : goal.invariant_of-self
invariant_of-self g c =
    let s = g.P.Port.state c.args.self.now.below in
    let m = model c.args.self.now.tables in
    let w = c.args.word in
    let e = miss_err s _ m.dir m.fill w c.requires.idle c.read.ensures.after c.in_err-value.field-0.0 (read_there s w (Err c.in_err-value.field-0.0) c.requires.inside c.in_err-value.ensures.value) in
    record { coherent = miss_kept s _ m.dir m.fill w c.requires.idle c.read.ensures.after m c.args.self.now.coherent c.requires.inside c.requires.absent e }

pub invariant_of-self-then-cacheable : goal.invariant_of-self-then-cacheable
invariant_of-self-then-cacheable g c =
    let s = g.P.Port.state c.args.self.now.below in
    let m = model c.args.self.now.tables in
    let n = model c.begin.new.self in
    let w = c.args.word in
    let ok = read_there s w (Ok c.in_ok-value.value) c.requires.inside c.in_ok-value.ensures.value in
    let e = miss_fill s _ m.dir m.fill w c.requires.idle c.read.ensures.after c.in_ok-value.value c.in_ok-cacheable.cacheable c.in_ok-cacheable.protect ok c.in_ok-cacheable.ensures
    c.if-cacheable.true n c.begin.ensures.dir c.begin.ensures.fill in
    record { coherent = miss_kept s _ m.dir m.fill w c.requires.idle c.read.ensures.after n c.args.self.now.coherent c.requires.inside c.requires.absent e }

pub invariant_of-self-else-cacheable : goal.invariant_of-self-else-cacheable
invariant_of-self-else-cacheable g c =
    let s = g.P.Port.state c.args.self.now.below in
    let m = model c.args.self.now.tables in
    let w = c.args.word in
    let ok = read_there s w (Ok c.in_ok-value.value) c.requires.inside c.in_ok-value.ensures.value in
    let e = miss_pass s _ m.dir m.fill w c.requires.idle c.read.ensures.after c.in_ok-value.value c.in_ok-cacheable.cacheable c.in_ok-cacheable.protect ok c.in_ok-cacheable.ensures
    c.if-cacheable.false in
    record { coherent = miss_kept s _ m.dir m.fill w c.requires.idle c.read.ensures.after m c.args.self.now.coherent c.requires.inside c.requires.absent e }

pub returns-in_err-value-clause-did : goal.returns-in_err-value-clause-did
returns-in_err-value-clause-did g c =
    let s = g.P.Port.state c.args.self.now.below in
    let w = c.args.word in
    let e = miss_err s _ _ _ w c.requires.idle c.read.ensures.after c.in_err-value.field-0.0 (read_there s w (Err c.in_err-value.field-0.0) c.requires.inside c.in_err-value.ensures.value) in
    record { tables = e; below = one_read w w c.read.result _ refl (read_there s w _ c.requires.inside c.read.ensures.value) c.read.ensures.did }

pub returns-then-cacheable-clause-did : goal.returns-then-cacheable-clause-did
returns-then-cacheable-clause-did g c =
    let s = g.P.Port.state c.args.self.now.below in
    let w = c.args.word in
    let ok = read_there s w (Ok c.in_ok-value.value) c.requires.inside c.in_ok-value.ensures.value in
    let e = miss_fill s _ _ _ w c.requires.idle c.read.ensures.after c.in_ok-value.value c.in_ok-cacheable.cacheable c.in_ok-cacheable.protect ok c.in_ok-cacheable.ensures
    c.if-cacheable.true (model c.begin.new.self) c.begin.ensures.dir c.begin.ensures.fill in
    record { tables = e; below = one_read w w c.read.result _ refl (read_there s w _ c.requires.inside c.read.ensures.value) c.read.ensures.did }

pub returns-else-cacheable-clause-did : goal.returns-else-cacheable-clause-did
returns-else-cacheable-clause-did g c =
    let s = g.P.Port.state c.args.self.now.below in
    let w = c.args.word in
    let ok = read_there s w (Ok c.in_ok-value.value) c.requires.inside c.in_ok-value.ensures.value in
    let e = miss_pass s _ _ _ w c.requires.idle c.read.ensures.after c.in_ok-value.value c.in_ok-cacheable.cacheable c.in_ok-cacheable.protect ok c.in_ok-cacheable.ensures
    c.if-cacheable.false in
    record { tables = e; below = one_read w w c.read.result _ refl (read_there s w _ c.requires.inside c.read.ensures.value) c.read.ensures.did }
