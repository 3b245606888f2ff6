use Rattle.std.proofs.Common.{◌≡◌, [], drop, length, map}
use Rattle.std.specs.Prelude.{IfSome}
use Rattle.toxicap.specs.{held_now, texts_from, with_files}
use Rattle.toxicap.proofs.commands.runs.load_files.Given as goal

abbrev pub invariant-loop-path : goal.invariant-loop-path
invariant-loop-path g l = record {
  contents : IfSome (g.D.Disk.history l.disk) (λ h. texts_from (held_now h) (map (λ f. f.items) l.files.items) (map (λ path. path.now) (drop l.path-index l.named))
      ≡ texts_from (held_now h) [] (map (λ path. path.now) l.named));
  read : IfSome (g.D.Disk.standing l.disk) (λ stood. with_files stood l.read (map (λ path. path.now) (drop l.path-index l.named))
      ≡ with_files stood l.fn.read (map (λ path. path.now) l.named));
  one_each : length l.files.items ≡ l.path-index;
}
