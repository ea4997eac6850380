-- What a device record may name of a policy's system.
use Rattle.std.specs.Prelude.{map}
use Rattle.policy_lawful.specs.source.Device.{Device}
use Rattle.policy_lawful.specs.source.Source.{Source}
use Rattle.record_text.specs.Bench.{Bench, BenchDevice}

abbrev pub bench_device : Device → BenchDevice
bench_device d = record {
  name = d.name;
  ports = map (λ p. (p.start, p.end)) d.io_ports;
  memories = map (λ m. (m.name, m.size)) d.memory;
  irqs = map (λ i. i.name) d.irqs;
}

-- the CPUs and the devices of a policy
abbrev pub devices_of : Source → Bench
devices_of p = record { cpus = p.processor.logical_cpus; devices = map bench_device p.devices }
