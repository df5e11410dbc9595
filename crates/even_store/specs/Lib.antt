pub mod Even
pub mod EvenPlaces
