use Rattle.std.proofs.Common.{rules}
use Rattle.cache_tables.specs.Rules.{model}
use Rattle.cache_tables.proofs.Fetching.{fetch_kept, no_fill, no_calls}
use Rattle.cache.proofs.Calling.{word_came, word_lost, word_asked}
use Rattle.cache.proofs.cache.Cache.fetch_one.Goals as goal

pub next_word-requires : goal.next_word-requires
next_word-requires g c = (c.args.self.now.coherent.fill c.in-Some.fill c.in-Some.is).under

pub invariant_of-self : goal.invariant_of-self
invariant_of-self g c =
    let s = g.P.Port.state c.args.self.now.below in
    let m = model c.args.self.now.tables in
    let kept = c.args.self.now.coherent in
    record { coherent = fetch_kept s _ m _ c.read.ensures.after kept (word_came s m c.in-Some.fill c.next_word.result c.in-Some.is c.next_word.ensures.value kept c.in-Ok.value _ c.in-Ok.ensures.value (c.stow.ensures.after c.in-Some.fill c.in-Some.is)) }

pub invariant_of-self-in-Err : goal.invariant_of-self-in-Err
invariant_of-self-in-Err g c =
    let s = g.P.Port.state c.args.self.now.below in
    let m = model c.args.self.now.tables in
    let kept = c.args.self.now.coherent in
    record { coherent = fetch_kept s _ m _ c.read.ensures.after kept (word_lost s m c.in-Some.fill c.next_word.result c.in-Some.is c.next_word.ensures.value kept c.in-Err.field-0 c.in-Err.ensures.value) }

pub returns-in-Ok-clause-did : goal.returns-in-Ok-clause-did
returns-in-Ok-clause-did g c =
    let s = g.P.Port.state c.args.self.now.below in
    let m = model c.args.self.now.tables in
    let kept = c.args.self.now.coherent in
    record {
      tables = word_came s m c.in-Some.fill c.next_word.result c.in-Some.is c.next_word.ensures.value kept c.in-Ok.value _ c.in-Ok.ensures.value (c.stow.ensures.after c.in-Some.fill c.in-Some.is);
      below = word_asked s m c.in-Some.fill c.next_word.result c.in-Some.is c.next_word.ensures.value kept c.read.result c.read.ensures.value c.read.ensures.did;
    }

pub returns-in-Err-clause-did : goal.returns-in-Err-clause-did
returns-in-Err-clause-did g c =
    let s = g.P.Port.state c.args.self.now.below in
    let m = model c.args.self.now.tables in
    let kept = c.args.self.now.coherent in
    record {
      tables = word_lost s m c.in-Some.fill c.next_word.result c.in-Some.is c.next_word.ensures.value kept c.in-Err.field-0 c.in-Err.ensures.value;
      below = word_asked s m c.in-Some.fill c.next_word.result c.in-Some.is c.next_word.ensures.value kept c.read.result c.read.ensures.value c.read.ensures.did;
    }

pub returns-in_default-clause-did : goal.returns-in_default-clause-did
returns-in_default-clause-did g c = search (rules, no_fill, no_calls)
