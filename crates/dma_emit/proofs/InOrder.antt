-- Windows of which no two are at the same address, in the order of their addresses.
use Rattle.std.proofs.Common.{◌≡◌, List, get_or, sym, arith}
use Rattle.std.specs.List.Sorted.{IsNonDecreasingBy, IsPermutation}
use Rattle.muen_num.proofs.Numbers.{equal_turned, lower}
use Rattle.dma_emit.specs.Domains.{is_lower_window}
use Rattle.dma_emit.specs.Ready.{HaveDifferentGuests, same_device_address}
use Rattle.ept_emit.specs.declared.window.Window.{Window}
use Rattle.expand_kernel.specs.Ordered.{in_order}
use Rattle.expand_kernel.proofs.Ordered.{ordered_is}
use Rattle.span_emit.proofs.PairLaws.{pairs_permuted}

pub still_different : (xs ys : List Window) → IsPermutation xs ys → HaveDifferentGuests xs → HaveDifferentGuests ys
still_different xs ys moved different = pairs_permuted same_device_address (λ a b. equal_turned a.guest b.guest) xs ys moved different

-- what is sorted by addresses that differ is in their order
pub sorted_is : (xs ys : List Window) → HaveDifferentGuests xs → IsPermutation xs ys → IsNonDecreasingBy (λ w. w.guest) ys → ys ≡ in_order is_lower_window xs
sorted_is xs ys different moved rising =
    let apart = still_different xs ys moved different in
    sym (ordered_is is_lower_window xs ys moved (λ i j d l m. lower (get_or ys i d).guest (get_or ys j d).guest (rising i j d (omega (arith, l)) m) (apart i j d l m)))
