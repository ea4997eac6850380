-- Laws of granted ports and of their bits.
use Rattle.std.proofs.Common.{◌≡◌, sym, refl, ℕ, ◌+◌, ◌-◌, ◌<◌, ◌≤◌, ◌&&◌, Bool, true, false, not, min, List, length, get_or, take, arith, inl, inr, zero-add, lt-ltb, le-ltb, le-leb, nat_le}
use Rattle.std.proofs.lemmas.Bool.{cases_lt}
use Rattle.std.proofs.lemmas.Bool.Decides.{nat_tests}
use Rattle.std.proofs.lemmas.List.{take_all}
use Rattle.std.proofs.lemmas.List.Folds.{list_any_more}
use Rattle.muen_num.proofs.Booleans.{not_or}
use Rattle.muen_num.proofs.NumbersBelow.{all_or_one}
use Rattle.machine_layout.specs.Exits.{is_set, port_is_set, port_exits}
use Rattle.machine_layout.specs.Bitmaps.{is_between}
use Rattle.policy_types.specs.declared.resources.PortRange.{PortRange}
use Rattle.iobm_emit.specs.Ports.{is_granted, is_granted_access}
use Rattle.policy_types.specs.PortRanges.{has_port}

-- the bits of a range
range_bits : (r : PortRange) (base bit : ℕ) → bit < 0x8000 → is_between (min (r.start - base) 0x8000) (min (r.end + 1 - base) 0x8000) bit ≡ has_port r (base + bit)
range_bits r base bit h = grind (arith, nat_tests)

-- with one more range
pub granted_more : (ports : List PortRange) (i base bit first end : ℕ) (r : PortRange) (old new : Bool) → i < length ports → bit < 0x8000 → first ≡ min ((get_or ports i r).start - base) 0x8000 → end ≡ min ((get_or ports i r).end + 1 - base) 0x8000 → old ≡ not (is_granted (take i ports) (base + bit)) → new ≡ (old && not (is_between first end bit)) → new ≡ not (is_granted (take (i + 1) ports) (base + bit))
unfolding is_granted
granted_more ports i base bit first end r old new h l f e p q =
    let test : PortRange → Bool = λ x. has_port x (base + bit) in
    rw (q, p, f, e, range_bits (get_or ports i r) base bit l, list_any_more test ports i r h) (sym (not_or _ _))

-- with none
pub granted_none : (ports : List PortRange) (port : ℕ) (b : Bool) → b ≡ true → b ≡ not (is_granted (take 0 ports) port)
unfolding is_granted
granted_none ports port b h = h

-- with all
pub granted_all : (ports : List PortRange) (i port : ℕ) (b : Bool) → length ports ≤ i → b ≡ not (is_granted (take i ports) port) → b ≡ not (is_granted ports port)
granted_all ports i port b h p = rw (← take_all i ports h) p

-- ---- accesses

-- each port has the bit of its bitmap
port_is : (ports : List PortRange) (a b : List ℕ) → ((bit : ℕ) → bit < 0x8000 → is_set a bit ≡ not (is_granted ports (0 + bit))) → ((bit : ℕ) → bit < 0x8000 → is_set b bit ≡ not (is_granted ports (0x8000 + bit))) → (port : ℕ) → port < 0x10000 → port_is_set a b port ≡ not (is_granted ports port)
port_is ports a b p q port h =
    elim (cases_lt port 0x8000) [
      | inl l ↦ rw (lt-ltb port 0x8000 l) (rw zero-add at (p port l))
      | inr l ↦
          let back : 0x8000 + (port - 0x8000) ≡ port = omega arith in
          let here = q (port - 0x8000) (omega arith) in
          rw (le-ltb port 0x8000 l) (rw back at here)
    ]

past : (port size : ℕ) → 0x10000 < port + size → nat_le (port + size) 0x10000 ≡ false
past port size h = grind (arith, nat_tests)

pub exits_is : (ports : List PortRange) (a b : List ℕ) → ((bit : ℕ) → bit < 0x8000 → is_set a bit ≡ not (is_granted ports (0 + bit))) → ((bit : ℕ) → bit < 0x8000 → is_set b bit ≡ not (is_granted ports (0x8000 + bit))) → (port size : ℕ) → port_exits a b port size ≡ not (is_granted_access ports port size)
unfolding is_granted_access
exits_is ports a b p q port size =
    elim (cases_lt 0x10000 (port + size)) [
      | inl l ↦
          rw (lt-ltb 0x10000 (port + size) l, past port size l) refl
      | inr l ↦
          rw (le-ltb 0x10000 (port + size) l, le-leb (port + size) 0x10000 l) (all_or_one (λ k. port_is_set a b (port + k)) (λ k. is_granted ports (port + k)) size (λ k h. port_is ports a b p q (port + k) (omega arith)))
    ]
