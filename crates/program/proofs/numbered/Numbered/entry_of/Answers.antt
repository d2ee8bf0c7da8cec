use Rattle.std.proofs.Common.{◌<◌, ◌+◌, ◌-◌, ◌≤◌, length, sym, ◌∙◌, ap, None, Some, option_map, arith}
use Rattle.program.specs.declared.ids.EntryId.{EntryId}
use Rattle.program.specs.Program.{parts_of}
use Rattle.program.proofs.Entries.{entry_is, no_entry, has_entry}
use Rattle.program.proofs.Facts.{few_functions}
use Rattle.program.proofs.numbered.Numbered.entry_of.Goals as goal

pub returns-in_err-at-clause-entry : goal.returns-in_err-at-clause-entry
returns-in_err-at-clause-entry c =
    ap (option_map (λ (e : EntryId). e.0)) c.from_residual.ensures
    ∙ entry_is c.args.self.now c.args.name.now c.as_bytes.result.now None c.in_err-at.ensures c.as_bytes.ensures.value

pub returns-in_err-at-clause-none : goal.returns-in_err-at-clause-none
returns-in_err-at-clause-none c =
    let none = entry_is c.args.self.now c.args.name.now c.as_bytes.result.now None c.in_err-at.ensures c.as_bytes.ensures.value in
    rw c.from_residual.ensures (no_entry c.args.self.now c.args.name.now (sym none))

pub overflow_cast-result : goal.overflow_cast-result
overflow_cast-result c =
    let is = entry_is c.args.self.now c.args.name.now c.as_bytes.result.now (Some c.in_ok-at.at) c.in_ok-at.ensures c.as_bytes.ensures.value in
    let has = has_entry c.args.self.now c.args.name.now c.in_ok-at.at (sym is) in
    let few : length c.args.self.now.functions + (length c.args.self.now.classes - 7) ≤ 32767 = few_functions (parts_of c.args.self.now) c.args.self.now.sound in
    let low : c.in_ok-at.at < length c.args.self.now.functions = has.0 in
    omega arith

pub returns-clause-entry : goal.returns-clause-entry
returns-clause-entry c = entry_is c.args.self.now c.args.name.now c.as_bytes.result.now (Some c.in_ok-at.at) c.in_ok-at.ensures c.as_bytes.ensures.value

pub returns-clause-found : goal.returns-clause-found
returns-clause-found c =
    let is = entry_is c.args.self.now c.args.name.now c.as_bytes.result.now (Some c.in_ok-at.at) c.in_ok-at.ensures c.as_bytes.ensures.value in
    (has_entry c.args.self.now c.args.name.now c.in_ok-at.at (sym is)).1
