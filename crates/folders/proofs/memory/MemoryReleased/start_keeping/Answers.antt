-- Where the file is this station's its numbers are told, and else it is the first start.
use Rattle.std.proofs.Common.{rules, ◌≡◌, Some, None, List, ℕ, sym, subst}
use Rattle.folders.specs.GoneOut.{IsOwnFile, AreThoseOf}
use Rattle.folders.proofs.Ledgers.{those_of, match_none, some_is}
use Rattle.folders.proofs.memory.MemoryReleased.start_keeping.Goals as goal

pub returns-in_ok-went-in-Some : goal.returns-in_ok-went-in-Some
returns-in_ok-went-in-Some c =
    let o = c.args.own.now in
    let kept = c.in-Some.kept in
    let went = c.in_ok-went-in-Some.went in
    let is : c.in_ok-kept.field-0 ≡ Some kept = search rules in
    let bytes : c.deref.result.now ≡ c.args.self.now.bytes.items = search rules in
    let numbers = some_is c.in_ok-kept.field-0 kept _ is c.in_ok-kept.ensures.numbers in
    record {
      starts = c.in_ok-went-in-Some.ensures.starts c.args.known.now;
      kept = λ _.
          subst (λ (b : List ℕ). AreThoseOf went.numbers o b) bytes
          (those_of o c.deref.result.now kept.numbers went.numbers c.in_ok-went-in-Some.ensures.numbers numbers);
    }

pub returns-in_ok-went-in-None-2 : goal.returns-in_ok-went-in-None-2
returns-in_ok-went-in-None-2 c =
    let is : c.in_ok-kept.field-0 ≡ None = search rules in
    let bytes : c.deref.result.now ≡ c.args.self.now.bytes.items = search rules in
    record {
      starts = c.in_ok-went-in-None.ensures.starts;
      kept = λ own. absurd (match_none c.in_ok-kept.field-0 _ _ is c.in_ok-kept.ensures.own (subst (λ (b : List ℕ). IsOwnFile b c.args.own.now) (sym bytes) own));
    }
