-- What is known while the windows are gone through.
use Rattle.std.proofs.Common.{◌≡◌, take}
use Rattle.image_verify.specs.ByNumber.{all_numbered_on}
use Rattle.image_verify.proofs.windows.windows_on.Given as goal

abbrev pub invariant-loop-window : goal.invariant-loop-window
invariant-loop-window l = l.windows.items ≡ all_numbered_on l.image (take l.window-index l.granted)
