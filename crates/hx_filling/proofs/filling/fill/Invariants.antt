use Rattle.std.proofs.Common.{◌≡◌, ◌≤◌, ◌+◌, length, take}
use Rattle.hx_outside.specs.Log.{HoldsSince}
use Rattle.hx_filling.specs.Files.{files_of}
use Rattle.hx_filling.specs.Filling.{Filling}
use Rattle.hx_filling.proofs.filling.fill.Given as goal

abbrev pub invariant-loop-rest : goal.invariant-loop-rest
invariant-loop-rest g l = record {
  filling : Filling (g.F.Files.held l.fn.files) l.specs.specs l.fn.refs.content l.r l.rest l.refs.content;
  place : l.r + length l.rest ≡ length l.specs.specs;
  count : length l.refs.content.references ≡ length l.specs.specs;
  heads : l.refs.content.heads ≡ l.fn.refs.content.heads;
  held : g.F.Files.held l.files ≡ g.F.Files.held l.fn.files;
  last : g.F.Files.last l.files ≡ g.F.Files.last l.fn.files;
  later : g.F.Files.faults l.fn.files ≤ g.F.Files.faults l.files;
  reads : HoldsSince (g.F.Files.log l.fn.files) (g.F.Files.log l.files) (λ names. names ≡ files_of (take l.r l.specs.specs));
  too_large : (g.M.ReMaker.state l.maker).too_large ≡ (g.M.ReMaker.state l.fn.maker).too_large;
  large : (g.M.ReMaker.state l.maker).large ≡ (g.M.ReMaker.state l.fn.maker).large;
}

abbrev pub decreases-loop-rest : goal.decreases-loop-rest
decreases-loop-rest g l = length l.rest
