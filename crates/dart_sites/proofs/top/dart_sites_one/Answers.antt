use Rattle.std.proofs.Common.{subst}
use Rattle.dart_sites.specs.Top.{LineWritten, NoSource, OverLimit}
use Rattle.dart_sites.specs.Words.{texts}
use Rattle.dart_sites.proofs.Heads.{whole_written, part_written, source_refused, request_refused, no_source_not_accepted, names_not_accepted, limit_not_accepted}
use Rattle.dart_sites.proofs.top.dart_sites_one.Goals as goal

pub returns-clause-done : goal.returns-clause-done
returns-clause-done g c = λ is.
    whole_written _ _ _ _ _ c.in-Bytes.bytes.items c.as_slice.result.now _ _ _ _ c.in-Some.ensures c.in-Bytes.ensures.read.says c.as_slice.ensures.value c.in-Told.ensures (c.finish.ensures.done is).0 (c.finish.ensures.done is).1

pub returns-clause-entry_fault : goal.returns-clause-entry_fault
returns-clause-entry_fault g c = λ is.
    whole_written _ _ _ _ _ c.in-Bytes.bytes.items c.as_slice.result.now _ _ _ _ c.in-Some.ensures c.in-Bytes.ensures.read.says c.as_slice.ensures.value c.in-Told.ensures (c.finish.ensures.entry_fault is).0 (c.finish.ensures.entry_fault is).1

pub returns-in-NoSource-clause-no_source : goal.returns-in-NoSource-clause-no_source
returns-in-NoSource-clause-no_source g c = λ is.
    source_refused NoSource _ _ _ _ _ _ c.in-Bytes.bytes.items c.as_slice.result.now c.in-NoSource.line.items c.in-Bytes.ensures.read.says c.as_slice.ensures.value c.in-NoSource.ensures
    (subst (LineWritten _ _ _ _) c.as_slice-in-NoSource.ensures.value c.refuse-in-NoSource.ensures.line)

pub returns-in-NoSource-clause-complete : goal.returns-in-NoSource-clause-complete
returns-in-NoSource-clause-complete g c = λ accepted read written.
    absurd (no_source_not_accepted (texts c.args.words.now) _ _ c.in-Bytes.bytes.items c.as_slice.result.now c.in-NoSource.line.items c.in-Bytes.ensures.read.says c.as_slice.ensures.value c.in-NoSource.ensures accepted)

pub returns-in-WrongNames-clause-names : goal.returns-in-WrongNames-clause-names
returns-in-WrongNames-clause-names g c = λ is.
    request_refused (texts c.args.words.now) _ _ _ _ _ _ c.in-Bytes.bytes.items c.as_slice.result.now c.in-WrongNames.line.items _ c.in-Some.ensures c.in-Bytes.ensures.read.says c.as_slice.ensures.value c.in-WrongNames.ensures
    (subst (LineWritten _ _ _ _) c.as_slice-in-WrongNames.ensures.value c.refuse-in-WrongNames.ensures.line)

pub returns-in-WrongNames-clause-complete : goal.returns-in-WrongNames-clause-complete
returns-in-WrongNames-clause-complete g c = λ accepted read written.
    absurd (names_not_accepted (texts c.args.words.now) _ _ c.in-Bytes.bytes.items c.as_slice.result.now c.in-WrongNames.line.items _ c.in-Some.ensures c.in-Bytes.ensures.read.says c.as_slice.ensures.value c.in-WrongNames.ensures accepted)

pub returns-in-OverLimit-clause-limits : goal.returns-in-OverLimit-clause-limits
returns-in-OverLimit-clause-limits g c = λ is.
    source_refused OverLimit _ _ _ _ _ _ c.in-Bytes.bytes.items c.as_slice.result.now c.in-OverLimit.line.items c.in-Bytes.ensures.read.says c.as_slice.ensures.value c.in-OverLimit.ensures
    (subst (LineWritten _ _ _ _) c.as_slice-in-OverLimit.ensures.value c.refuse-in-OverLimit.ensures.line)

pub returns-in-OverLimit-clause-complete : goal.returns-in-OverLimit-clause-complete
returns-in-OverLimit-clause-complete g c = λ accepted read written.
    absurd (limit_not_accepted (texts c.args.words.now) _ _ c.in-Bytes.bytes.items c.as_slice.result.now c.in-OverLimit.line.items c.in-Bytes.ensures.read.says c.as_slice.ensures.value c.in-OverLimit.ensures accepted)

pub returns-clause-cut_short : goal.returns-clause-cut_short
returns-clause-cut_short g c = λ is.
    part_written _ _ _ _ _ c.in-Bytes.bytes.items c.as_slice.result.now _ _ _ c.in-Some.ensures c.in-Bytes.ensures.read.says c.as_slice.ensures.value c.in-Told.ensures (c.finish.ensures.cut_short is)
