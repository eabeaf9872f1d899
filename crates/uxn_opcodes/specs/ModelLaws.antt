-- Laws that carry an instruction over any ports which represent a model of ports to the model's own instruction.
use Rattle.std.specs.Prelude.{◌≡◌, ℕ, ◌+◌, ◌/◌, ◌%◌, ◌==◌, true, false}
use Rattle.std.specs.Prelude.{List, [], ◌∷◌, ◌++◌, Ok, Err, refl}
use Rattle.std.proofs.Common.{◌∙◌, ap, inl, inr, arith}
use Rattle.std.proofs.lemmas.Bool.Decides.{nat_tests}
use Rattle.uxn_opcodes.specs.declared.Core.{Core}
use Rattle.uxn_opcodes.specs.declared.Stop.{Stop}
use Rattle.uxn_opcodes.specs.declared.Turn.TheVariants.{Ran, Broke}
use Rattle.uxn_opcodes.specs.declared.operation.Width.{Width}
use Rattle.uxn_opcodes.specs.declared.operation.Width.TheVariants.{Byte, Short}
use Rattle.uxn_opcodes.specs.declared.rows.Access.{Access}
use Rattle.uxn_opcodes.specs.declared.rows.Access.TheVariants.{Read}
use Rattle.uxn_opcodes.specs.Ports.{Rules}
use Rattle.uxn_opcodes.specs.Rule.{opcode_at, begun}
use Rattle.uxn_opcodes.specs.Instruction.{ReadsWord, Written, WriteStops, port_answered, writes_in, FinishesAccess, Instruction}
use Rattle.uxn_opcodes.specs.Model.{Machine, PortModel, word_read, written_by, access_done, after_instruction}

module _ {S Q : Type 0} (rules : Rules S) (stands : S → Q → Type 0) (model : PortModel Q) where
  -- a core, and ports which represent those of a machine of the model
  pub record RepresentsMachine (core : Core) (ports : S) (machine : Machine Q) : Type 0 where
    pub same_core : core ≡ machine.core
    pub same_ports : stands ports machine.ports

  -- what the ports read and what their writes leave is what the model says, as far as they represent it
  pub record Carries : Type 0 where
    pub reading : (ports : S) (q : Q) (core : Core) (port value : ℕ)
        → stands ports q → rules.reads ports core port value → value ≡ model.read q core port
    pub writing : (ports : S) (q : Q) (core : Core) (port byte : ℕ) (ports_new : S) (core_new : Core)
        → stands ports q → rules.wrote ports core port byte ports_new core_new
        → RepresentsMachine core_new ports_new (model.write q core port byte)

  -- where an instruction stopped: at one of its writes, once those before it were done
  pub record MachineStopsAt (writes : List (ℕ × ℕ)) (begins : Machine Q) (stop : Stop) (core_new : Core) (ports_new : S) : Type 0 where
    pub before : List (ℕ × ℕ)
    pub port : ℕ
    pub byte : ℕ
    pub after : List (ℕ × ℕ)
    pub in_order : writes ≡ before ++ (port, byte) ∷ after
    pub ports : S
    pub same_ports : stands ports (written_by model before begins).ports
    pub stops : rules.stopped ports (written_by model before begins).core port byte stop ports_new core_new

  carried-read : Carries → (width : Width) (core : Core) (ports : S) (q : Q) (port value : ℕ)
      → stands ports q → ReadsWord rules width ports core port value → value ≡ word_read model width q core port
  carried-read carries Byte core ports q port value s r = carries.reading ports q core port value s r
  carried-read carries Short core ports q port value s r =
      let high = carries.reading ports q core port (value / 256) s r.0 in
      let low = carries.reading ports q core ((port + 1) % 256) (value % 256) s r.1 in
      omega arith

  carried-writes : Carries
      → (writes : List (ℕ × ℕ)) (core : Core) (ports : S) (machine : Machine Q) (core_new : Core) (ports_new : S)
      → RepresentsMachine core ports machine → Written rules writes ports core ports_new core_new
      → RepresentsMachine core_new ports_new (written_by model writes machine)
  carried-writes carries [] core ports machine core_new ports_new s w =
      record { same_core = w.1 ∙ s.same_core; same_ports = rw w.0 s.same_ports }
  carried-writes carries (write ∷ writes) core ports machine core_new ports_new s w =
      let next = carries.writing ports machine.ports core write.0 write.1 w.0 w.1.0 s.same_ports w.1.1.0 in
      let here = (rw s.same_core at next) in
      carried-writes carries writes w.1.0 w.0 (model.write machine.ports machine.core write.0 write.1) core_new ports_new here w.1.1.1

  carried-access : Carries
      → (access : Access) (core : Core) (ports : S) (q : Q) (core_new : Core) (ports_new : S)
      → stands ports q → FinishesAccess rules access core ports core_new ports_new
      → RepresentsMachine core_new ports_new (access_done model access core q)
  unfolding FinishesAccess
  carried-access carries (Read port mode) core ports q core_new ports_new s f =
      let e = carried-read carries mode.width core ports q port f.1.0 s f.1.1.0 in
      record { same_core = f.1.1.1 ∙ ap (λ v. port_answered mode core v) e; same_ports = rw f.0 s }
  carried-access carries access core ports q core_new ports_new s f =
      carried-writes carries (writes_in access) core ports (record { core = core; ports = q }) core_new ports_new
      (record { same_core = refl; same_ports = s }) f

  -- the law: an instruction that ran over ports which represent the model is the model's, and the ports then stand
  -- for what the model has
  pub carried-ran : Carries → (core : Core) (ports : S) (q : Q) (core_new : Core) (ports_new : S)
      → stands ports q → Instruction rules core ports (Ok Ran) core_new ports_new
      → RepresentsMachine core_new ports_new (after_instruction model core q)
  unfolding Instruction after_instruction
  carried-ran carries core ports q core_new ports_new s ran =
      let done = carried-access carries (begun core).access (begun core).core ports q core_new ports_new s ran.1 in
      let e : (opcode_at core == 0) ≡ false = grind (arith, nat_tests) in
      rw e done

  -- the law for BRK, which only moves on
  pub carried-broke : (core : Core) (ports : S) (q : Q) (core_new : Core) (ports_new : S)
      → stands ports q → Instruction rules core ports (Ok Broke) core_new ports_new
      → RepresentsMachine core_new ports_new (after_instruction model core q)
  unfolding Instruction after_instruction
  carried-broke core ports q core_new ports_new s broke =
      let e : (opcode_at core == 0) ≡ true = grind (arith, nat_tests) in
      rw e (record { same_core = broke.1; same_ports = rw broke.2 s })

  -- a stop after a write that was done
  stops-later : (write : ℕ × ℕ) (writes : List (ℕ × ℕ)) (machine : Machine Q) (stop : Stop) (core_new : Core) (ports_new : S)
      → MachineStopsAt writes (model.write machine.ports machine.core write.0 write.1) stop core_new ports_new
      → MachineStopsAt (write ∷ writes) machine stop core_new ports_new
  stops-later write writes machine stop core_new ports_new rest = record {
    before = write ∷ rest.before;
    port = rest.port;
    byte = rest.byte;
    after = rest.after;
    in_order = ap (λ ws. write ∷ ws) rest.in_order;
    ports = rest.ports;
    same_ports = rest.same_ports;
    stops = rest.stops;
  }

  carried-stop : Carries
      → (writes : List (ℕ × ℕ)) (core : Core) (ports : S) (machine : Machine Q) (stop : Stop) (core_new : Core) (ports_new : S)
      → RepresentsMachine core ports machine → WriteStops rules writes ports core stop ports_new core_new
      → MachineStopsAt writes machine stop core_new ports_new
  carried-stop carries [] core ports machine stop core_new ports_new s w = absurd w
  carried-stop carries (write ∷ writes) core ports machine stop core_new ports_new s w =
      elim w [
        | inl here ↦ record {
          before = [];
          port = write.0;
          byte = write.1;
          after = writes;
          in_order = refl;
          ports = ports;
          same_ports = s.same_ports;
          stops = rw s.same_core at here;
        }
        | inr later ↦
            let next = carries.writing ports machine.ports core write.0 write.1 later.0 later.1.0 s.same_ports later.1.1.0 in
            let here = (rw s.same_core at next) in
            let after : Machine Q = model.write machine.ports machine.core write.0 write.1 in
            stops-later write writes machine stop core_new ports_new
            (carried-stop carries writes later.1.0 later.0 after stop core_new ports_new here later.1.1.1)
      ]

  -- the law for a stop: it came at one of the instruction's writes, once those before it left what the model says
  pub carried-stopped : Carries → (core : Core) (ports : S) (q : Q) (stop : Stop) (core_new : Core) (ports_new : S)
      → stands ports q → Instruction rules core ports (Err stop) core_new ports_new
      → MachineStopsAt (writes_in (begun core).access) (record { core = (begun core).core; ports = q }) stop core_new ports_new
  unfolding Instruction
  carried-stopped carries core ports q stop core_new ports_new s w =
      carried-stop carries (writes_in (begun core).access) (begun core).core ports (record { core = (begun core).core; ports = q })
      stop core_new ports_new (record { same_core = refl; same_ports = s }) w.1
