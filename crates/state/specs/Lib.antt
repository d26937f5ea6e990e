-- The controller's lent bytes: where each number stands (Layout), the controller that they hold (View), what a call asks of
-- them (Range), and fresh bytes (Fresh).
pub mod Layout
pub mod View
pub mod Range
pub mod Fresh
