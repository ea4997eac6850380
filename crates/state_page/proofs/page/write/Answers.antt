use Rattle.std.proofs.Common.{◌≡◌, ◌∙◌, ◌^◌, ◌<◌, ℕ, ◌∷◌, ◌++◌, [], ap, arith, length, flat_map, rules}
use Rattle.machine_layout.specs.Memory.{le_bytes, over}
use Rattle.machine_layout.specs.PageFields.{padded}
use Rattle.machine_layout.proofs.PageFieldLaws.{length-le_bytes}
use Rattle.state_page.specs.StatePage.{page_bytes, flags_of}
use Rattle.state_page.proofs.PageLaws.{fields_put, length-words, state_back}
use Rattle.state_page.proofs.page.write.Goals as goal

pub returns-clause-page : goal.returns-clause-page
unfolding page_bytes
returns-clause-page c =
    let s = c.args.state.now in
    let size : ℕ = length c.args.page.now in
    let long : length s.regs ≡ 16 = omega arith in
    let front : length (flat_map (le_bytes 8) s.regs) ≡ 128 = omega (arith, length-words 8 s.regs, long) in
    let cleared : length c.clear_all.new.page ≡ size = c.clear_all.auto.page in
    let registers = c.put_registers.ensures.page ∙ ap (λ n. padded n (flat_map (le_bytes 8) s.regs)) cleared in
    let byte = c.put_bytes.ensures ∙ ap (λ b. over c.put_word-3.new.page 152 (b ∷ [])) c.flags.ensures in
    fields_put size (flat_map (le_bytes 8) s.regs) (le_bytes 8 s.pc) (le_bytes 8 s.epc) (le_bytes 8 s.vbase) (flags_of s ∷ []) _ _ _ _ _ front (length-le_bytes 8 s.pc) (length-le_bytes 8 s.epc) (length-le_bytes 8 s.vbase) (omega (arith, c.requires)) registers c.put_word.ensures c.put_word-2.ensures c.put_word-3.ensures byte ∙ ap (λ n. padded n (flat_map (le_bytes 8) s.regs ++ (le_bytes 8 s.pc ++ (le_bytes 8 s.epc ++ (le_bytes 8 s.vbase ++ (flags_of s ∷ [])))))) c.requires

pub returns-clause-back : goal.returns-clause-back
returns-clause-back c =
    let s = c.args.state.now in
    let long : length s.regs ≡ 16 = omega arith in
    let pc : s.pc < 2 ^ 64 = search rules in
    let epc : s.epc < 2 ^ 64 = search rules in
    let vbase : s.vbase < 2 ^ 64 = search rules in
    state_back s c.put_bytes.new.page long c.put_registers.ensures.words pc epc vbase (returns-clause-page c)
