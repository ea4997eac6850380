use Rattle.std.proofs.Common.{◌∙◌, ℕ, ap}
use Rattle.guest_isa.specs.Step.{Answer}
use Rattle.vmx_machine.specs.Machine.{with_store, msr_file_with_write}
use Rattle.vmx_machine.proofs.Restored.{executed_in_place}
use Rattle.vmx_machine.proofs.cpu.Entered.execute.Goals as goal

pub returns-clause-pages : goal.returns-clause-pages
returns-clause-pages g c =
    let done = c.carry_out-wish in
    let same = executed_in_place c.args.bus.now c.args.file.now c.args.bench.now.ports c.args.tick c.args.self.now c.args.instruction done.new.s done.result done.ensures.after done.ensures.wish done.ensures.passed in
    c.perform.ensures.pages ∙ ap (λ (a : Answer ℕ). with_store a.stored c.args.bus.now) same

pub returns-clause-file : goal.returns-clause-file
returns-clause-file g c =
    let done = c.carry_out-wish in
    let same = executed_in_place c.args.bus.now c.args.file.now c.args.bench.now.ports c.args.tick c.args.self.now c.args.instruction done.new.s done.result done.ensures.after done.ensures.wish done.ensures.passed in
    c.perform.ensures.file ∙ ap (λ (a : Answer ℕ). msr_file_with_write a.msr c.args.file.now) same

pub returns-clause-entered : goal.returns-clause-entered
returns-clause-entered g c =
    let done = c.carry_out-wish in
    let same = executed_in_place c.args.bus.now c.args.file.now c.args.bench.now.ports c.args.tick c.args.self.now c.args.instruction done.new.s done.result done.ensures.after done.ensures.wish done.ensures.passed in
    c.perform.ensures.entered ∙ ap (λ (a : Answer ℕ). record c.args.self.now { state = a.state }) same

pub returns-clause-end : goal.returns-clause-end
returns-clause-end g c =
    let done = c.carry_out-wish in
    let same = executed_in_place c.args.bus.now c.args.file.now c.args.bench.now.ports c.args.tick c.args.self.now c.args.instruction done.new.s done.result done.ensures.after done.ensures.wish done.ensures.passed in
    c.perform.ensures.end ∙ ap (λ (a : Answer ℕ). a.end) same
